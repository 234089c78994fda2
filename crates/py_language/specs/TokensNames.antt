-- Names and keywords (Language Reference 2.3). Names are ASCII here.
use Rattle.std.specs.Prelude.{ℕ, Bool, false, ◌&&◌, if◌then◌else◌, List, [], ◌∷◌, ◌++◌, Option, Some, None, bytes_eq, codes}
use Rattle.std.specs.List.{list_all, list_any}
use Rattle.std.specs.Str.{str_to_ascii_lowercase}
use Rattle.py_language.specs.declared.token.Token.{Token}
use Rattle.py_language.specs.declared.token.Token.TheVariants as t
use Rattle.py_language.specs.declared.token.Keyword.{Keyword}
use Rattle.py_language.specs.declared.token.Keyword.TheVariants as k
use Rattle.py_language.specs.TokensCharacters.{is_letter, is_word}

-- a letter or `_`, then letters, digits and `_`
abbrev pub is_name : List ℕ → Bool
is_name [] = false
is_name (c ∷ cs) = is_letter c && list_all is_word cs

-- what stands beside the first text of a list that is the same
abbrev pub listed : {X : Type 0} → List (List ℕ × X) → List ℕ → Option X
listed [] text = None
listed (row ∷ rows) text = if bytes_eq text row.0 then Some row.1 else listed rows text

unfoldable pub keywords_of_2 : List (List ℕ × Keyword)
keywords_of_2 = (codes "as", k.As) ∷ (codes "if", k.If) ∷ (codes "in", k.In) ∷ (codes "is", k.Is) ∷ (codes "or", k.Or) ∷ []

unfoldable pub keywords_of_3 : List (List ℕ × Keyword)
keywords_of_3 = (codes "and", k.And) ∷ (codes "def", k.Def) ∷ (codes "del", k.Del) ∷ (codes "for", k.For) ∷ (codes "not", k.Not) ∷ (codes "try", k.Try) ∷ []

unfoldable pub keywords_of_4 : List (List ℕ × Keyword)
keywords_of_4 = (codes "None", k.NoneLit) ∷ (codes "True", k.TrueLit) ∷ (codes "elif", k.Elif) ∷ (codes "else", k.Else) ∷ (codes "from", k.From) ∷ (codes "pass", k.Pass) ∷ (codes "with", k.With) ∷ []

unfoldable pub keywords_of_5 : List (List ℕ × Keyword)
keywords_of_5 = (codes "False", k.FalseLit) ∷ (codes "async", k.Async) ∷ (codes "await", k.Await) ∷ (codes "break", k.Break) ∷ (codes "class", k.Class) ∷ (codes "raise", k.Raise) ∷ (codes "while", k.While) ∷ (codes "yield", k.Yield) ∷ []

unfoldable pub keywords_of_6 : List (List ℕ × Keyword)
keywords_of_6 = (codes "assert", k.Assert) ∷ (codes "except", k.Except) ∷ (codes "global", k.Global) ∷ (codes "import", k.Import) ∷ (codes "lambda", k.Lambda) ∷ (codes "return", k.Return) ∷ []

unfoldable pub keywords_of_7 : List (List ℕ × Keyword)
keywords_of_7 = (codes "finally", k.Finally) ∷ []

unfoldable pub keywords_of_8 : List (List ℕ × Keyword)
keywords_of_8 = (codes "continue", k.Continue) ∷ (codes "nonlocal", k.Nonlocal) ∷ []

-- the 35 keywords, by their length
abbrev pub keywords : List (List ℕ × Keyword)
keywords = keywords_of_2 ++ (keywords_of_3 ++ (keywords_of_4 ++ (keywords_of_5 ++ (keywords_of_6 ++ (keywords_of_7 ++ keywords_of_8)))))

abbrev pub keyword_or_name : List ℕ → Option Keyword → Token
keyword_or_name text None = t.Name text
keyword_or_name text (Some keyword) = t.Keyword keyword

-- the token that a name's text is
unfoldable pub name_token : List ℕ → Token
name_token text = keyword_or_name text (listed keywords text)

-- the prefixes that a string has in Python, in lower case
abbrev pub prefixes : List (List ℕ)
prefixes = codes "r" ∷ codes "b" ∷ codes "f" ∷ codes "u" ∷ codes "br" ∷ codes "rb" ∷ codes "fr" ∷ codes "rf" ∷ []

unfoldable pub is_string_prefix : List ℕ → Bool
is_string_prefix text = list_any (λ prefix. bytes_eq prefix (str_to_ascii_lowercase text)) prefixes
