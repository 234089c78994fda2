-- The tokens that an annotation is printed as (Language Reference 7.2.2 and 8.7, and the library manual's chapter on typing).
use Rattle.std.specs.Prelude.{ℕ, List, [], ◌∷◌, ◌++◌}
use Rattle.py_language.specs.declared.token.Token.{Token}
use Rattle.py_language.specs.declared.token.Token.TheVariants as t
use Rattle.py_language.specs.declared.token.Keyword.TheVariants as k
use Rattle.py_language.specs.declared.token.Mark.TheVariants as m
use Rattle.py_syntax.specs.declared.stmt.Annotation.{Annotation, Annotation-F, fold-Annotation}
use Rattle.py_layout.specs.Small.{joined}
use Rattle.py_printer.specs.Style.{text_of}

-- a name, with its parts in brackets
abbrev pub named_tokens : List ℕ → List (List Token) → List Token
named_tokens n [] = t.Name n ∷ []
named_tokens n (xs ∷ more) = t.Name n ∷ t.Mark m.LeftBracket ∷ (joined (xs ∷ more) ++ t.Mark m.RightBracket ∷ [])

-- An annotation in a string is the text of its tokens.
abbrev pub tokens_by : Annotation-F (List Token) → List Token
tokens_by (Annotation-F.Named n parts) = named_tokens n parts
tokens_by Annotation-F.NoneType = t.Keyword k.NoneLit ∷ []
tokens_by (Annotation-F.OrNone xs) = xs ++ t.Mark m.Pipe ∷ t.Keyword k.NoneLit ∷ []
tokens_by (Annotation-F.Quoted xs) = t.Str (text_of xs) ∷ []

unfoldable pub annotation_tokens : Annotation → List Token
annotation_tokens = fold-Annotation (List Token) tokens_by
