-- How tokens are spelled, which neighbours need a space between them, and the text of logical lines (Language Reference, chapter 2).
use Rattle.std.specs.Prelude.{ℕ, ◌+◌, ◌/◌, ◌%◌, ◌^◌, Bool, true, false, not, ◌&&◌, ◌||◌, if◌then◌else◌, ◌==◌, nat_lt, List, [], ◌∷◌, ◌++◌, length, replicate, codes, decimal, ℤ, pos, negsuc, ◌≡◌, None, is_none, nat_eq, nat_abs, map, drop}
use Rattle.std.specs.List.{list_all, list_any, starts_with}
use Rattle.std.specs.Str.{all_scalars}
use lib.Utf8.{encodes}
use Rattle.py_language.specs.declared.token.Token.{Token}
use Rattle.py_language.specs.declared.token.Token.TheVariants as t
use Rattle.py_language.specs.declared.token.Keyword.{Keyword}
use Rattle.py_language.specs.declared.token.Keyword.TheVariants as k
use Rattle.py_language.specs.declared.token.Logical.{Logical}
use Rattle.py_language.specs.Tokens.{tokens_of}
use Rattle.py_language.specs.declared.token.Mark.{Mark}
use Rattle.py_language.specs.declared.token.Mark.TheVariants as m
use Rattle.py_language.specs.TokensCharacters.{is_word, is_digit, is_quote, begins}
use Rattle.py_language.specs.TokensNames.{is_name, listed, keywords}
use Rattle.py_language.specs.TokensNumbers.{is_nil}
use Rattle.py_language.specs.TokensMarks.{marks, is_opening, is_closing, closes}

-- ---- the text of a token

-- 2.3.1
abbrev pub keyword_text : Keyword → List ℕ
keyword_text k.As = codes "as"
keyword_text k.If = codes "if"
keyword_text k.In = codes "in"
keyword_text k.Is = codes "is"
keyword_text k.Or = codes "or"
keyword_text k.And = codes "and"
keyword_text k.Def = codes "def"
keyword_text k.Del = codes "del"
keyword_text k.For = codes "for"
keyword_text k.Not = codes "not"
keyword_text k.Try = codes "try"
keyword_text k.NoneLit = codes "None"
keyword_text k.TrueLit = codes "True"
keyword_text k.Elif = codes "elif"
keyword_text k.Else = codes "else"
keyword_text k.From = codes "from"
keyword_text k.Pass = codes "pass"
keyword_text k.With = codes "with"
keyword_text k.FalseLit = codes "False"
keyword_text k.Async = codes "async"
keyword_text k.Await = codes "await"
keyword_text k.Break = codes "break"
keyword_text k.Class = codes "class"
keyword_text k.Raise = codes "raise"
keyword_text k.While = codes "while"
keyword_text k.Yield = codes "yield"
keyword_text k.Assert = codes "assert"
keyword_text k.Except = codes "except"
keyword_text k.Global = codes "global"
keyword_text k.Import = codes "import"
keyword_text k.Lambda = codes "lambda"
keyword_text k.Return = codes "return"
keyword_text k.Finally = codes "finally"
keyword_text k.Continue = codes "continue"
keyword_text k.Nonlocal = codes "nonlocal"

abbrev pub mark_text : Mark → List ℕ
mark_text m.Plus = codes "+"
mark_text m.Minus = codes "-"
mark_text m.Star = codes "*"
mark_text m.DoubleStar = codes "**"
mark_text m.Slash = codes "/"
mark_text m.DoubleSlash = codes "//"
mark_text m.Percent = codes "%"
mark_text m.At = codes "@"
mark_text m.LeftShift = codes "<<"
mark_text m.RightShift = codes ">>"
mark_text m.Ampersand = codes "&"
mark_text m.Pipe = codes "|"
mark_text m.Caret = codes "^"
mark_text m.Tilde = codes "~"
mark_text m.Walrus = codes ":="
mark_text m.Less = codes "<"
mark_text m.Greater = codes ">"
mark_text m.LessEqual = codes "<="
mark_text m.GreaterEqual = codes ">="
mark_text m.EqualEqual = codes "=="
mark_text m.NotEqual = codes "!="
mark_text m.LeftParen = codes "("
mark_text m.RightParen = codes ")"
mark_text m.LeftBracket = codes "["
mark_text m.RightBracket = codes "]"
mark_text m.LeftBrace = codes "{"
mark_text m.RightBrace = codes "}"
mark_text m.Comma = codes ","
mark_text m.Colon = codes ":"
mark_text m.Dot = codes "."
mark_text m.Semicolon = codes ";"
mark_text m.Equal = codes "="
mark_text m.Arrow = codes "->"
mark_text m.Ellipsis = codes "..."
mark_text m.PlusEqual = codes "+="
mark_text m.MinusEqual = codes "-="
mark_text m.StarEqual = codes "*="
mark_text m.SlashEqual = codes "/="
mark_text m.DoubleSlashEqual = codes "//="
mark_text m.PercentEqual = codes "%="
mark_text m.AtEqual = codes "@="
mark_text m.AmpersandEqual = codes "&="
mark_text m.PipeEqual = codes "|="
mark_text m.CaretEqual = codes "^="
mark_text m.RightShiftEqual = codes ">>="
mark_text m.LeftShiftEqual = codes "<<="
mark_text m.DoubleStarEqual = codes "**="

-- a hexadecimal digit, in lower case
abbrev pub hex_digit : ℕ → ℕ
hex_digit n = if nat_lt n 10 then 48 + n else 87 + n

-- an escape by two hexadecimal digits
abbrev pub by_digits : ℕ → List ℕ
by_digits c = 92 ∷ 120 ∷ hex_digit (c / 16) ∷ hex_digit (c % 16) ∷ []

-- A backslash and a quote are escaped by a backslash before them, as files are written, or by digits, which add no quote and no second
-- backslash. A reader takes both.
abbrev pub sign : Bool → ℕ → List ℕ
sign true c = by_digits c
sign false c = 92 ∷ c ∷ []

-- a character between double quotes (2.4.1): a backslash, a quote and what has no sign of its own is escaped
abbrev pub glyph : Bool → ℕ → List ℕ
glyph nested c =
    if c == 92 || c == 34 then sign nested c
    else (if c == 10 then 92 ∷ 110 ∷ []
    else (if c == 9 then 92 ∷ 116 ∷ []
    else (if c == 13 then 92 ∷ 114 ∷ []
    else (if nat_lt c 32 || c == 127 then by_digits c
    else c ∷ []))))

abbrev pub glyphs_by : Bool → List ℕ → List ℕ
glyphs_by nested [] = []
glyphs_by nested (c ∷ cs) = glyph nested c ++ glyphs_by nested cs

-- the characters between the quotes
abbrev pub glyphs : List ℕ → List ℕ
glyphs s = glyphs_by false s

unfoldable pub quoted : List ℕ → List ℕ
quoted s = 34 ∷ (encodes (glyphs s) ++ 34 ∷ [])

abbrev pub spelled : Token → List ℕ
spelled (t.Name n) = n
spelled (t.Keyword k) = keyword_text k
spelled (t.Int n) = decimal (nat_abs n)
spelled (t.Str s) = quoted s
spelled (t.Mark m) = mark_text m

-- the tokens that a text can hold: names that are no keywords, integers of the language, characters of Unicode
abbrev pub is_small : ℤ → Bool
is_small (pos n) = nat_lt n (2 ^ 127)
is_small (negsuc n) = false

abbrev pub is_sound : Token → Bool
is_sound (t.Name n) = is_name n && is_none (listed keywords n)
is_sound (t.Keyword k) = true
is_sound (t.Int n) = is_small n
is_sound (t.Str s) = all_scalars s
is_sound (t.Mark m) = true

-- ---- neighbours

-- some mark begins with the text and d (2.5 and 2.6)
abbrev pub has_longer_mark : List ℕ → ℕ → Bool
has_longer_mark text d = list_any (λ (row : List ℕ × Mark). starts_with nat_eq row.0 (text ++ d ∷ [])) marks

abbrev pub is_dot : List ℕ → Bool
is_dot [] = false
is_dot (c ∷ cs) = c == 46 && is_nil cs

-- the token's text is a piece of its own where d follows
abbrev pub ends_before : Token → ℕ → Bool
ends_before (t.Name n) d = not (is_word d || is_quote d)
ends_before (t.Keyword k) d = not (is_word d || is_quote d)
ends_before (t.Int n) d = not (is_word d || d == 46)
ends_before (t.Str s) d = not (is_quote d)
ends_before (t.Mark m) d = not (has_longer_mark (mark_text m) d || (is_dot (mark_text m) && is_digit d))

abbrev pub may_touch : Token → Token → Bool
may_touch a b = begins (ends_before a) (spelled b)

-- ---- lines

-- a token, and whether a space is before it
abbrev pub Spaced : Type 0
Spaced = Bool × Token

abbrev pub space : Bool → List ℕ
space true = 32 ∷ []
space false = []

abbrev pub spaced_text : List Spaced → List ℕ
spaced_text [] = []
spaced_text (x ∷ xs) = space x.0 ++ (spelled x.1 ++ spaced_text xs)

-- a logical line: its column, its first token and the others
pub record Row : Type 0 where
  pub column : ℕ
  pub first : Token
  pub others : List Spaced

abbrev pub row_text : Row → List ℕ
row_text r = replicate r.column 32 ++ (spelled r.first ++ (spaced_text r.others ++ 10 ∷ []))

-- rows, each with a number of blank lines before it
abbrev pub rows_text : List (ℕ × Row) → List ℕ
rows_text [] = []
rows_text (r ∷ rs) = replicate r.0 10 ++ (row_text r.1 ++ rows_text rs)

abbrev pub row_tokens : Row → List Token
row_tokens r = r.first ∷ map (λ (x : Spaced). x.1) r.others

-- neighbours without a space may touch
abbrev pub is_spaced : Token → List Spaced → Bool
is_spaced a [] = true
is_spaced a (x ∷ xs) = (x.0 || may_touch a x.1) && is_spaced x.1 xs

-- ---- brackets

abbrev pub closes_first : ℕ → List ℕ → Bool
closes_first c [] = false
closes_first c (o ∷ os) = closes c o

abbrev pub fits_by : List ℕ → ℕ → Bool
fits_by opened c = if is_opening c then nat_lt (length opened) 50 else (if is_closing c then closes_first c opened else true)

abbrev pub open_by : List ℕ → ℕ → List ℕ
open_by opened c = if is_opening c then c ∷ opened else (if is_closing c then drop 1 opened else opened)

abbrev pub fits_text : List ℕ → List ℕ → Bool
fits_text opened [] = true
fits_text opened (c ∷ cs) = fits_by opened c

abbrev pub open_text : List ℕ → List ℕ → List ℕ
open_text opened [] = opened
open_text opened (c ∷ cs) = open_by opened c

-- brackets close in order, at most 50 are opened at once, and none is opened at the end
abbrev pub is_balanced : List ℕ → List Token → Bool
is_balanced opened [] = is_nil opened
is_balanced opened (x ∷ xs) = fits_text opened (spelled x) && is_balanced (open_text opened (spelled x)) xs

abbrev pub is_bracket : Token → Bool
is_bracket (t.Mark m.LeftBrace) = true
is_bracket (t.Mark m.LeftBracket) = true
is_bracket (t.Mark m.LeftParen) = true
is_bracket (t.Mark m.RightBrace) = true
is_bracket (t.Mark m.RightBracket) = true
is_bracket (t.Mark m.RightParen) = true
is_bracket _ = false

-- the text fits whatever is open, and leaves it open
pub record OpensNone (text : List ℕ) : Type 0 where
  pub fits : (opened : List ℕ) → fits_text opened text ≡ true
  pub same : (opened : List ℕ) → open_text opened text ≡ opened

abbrev pub is_row : Row → Bool
is_row r = list_all is_sound (row_tokens r) && (is_spaced r.first r.others && is_balanced [] (row_tokens r))

-- the logical lines that rows make, from a line on
abbrev pub logical : ℕ → Row → Logical
logical line r = record { line = line; column = r.column; tokens = row_tokens r }

abbrev pub logicals : ℕ → List (ℕ × Row) → List Logical
logicals line [] = []
logicals line (r ∷ rs) = logical (line + r.0) r.1 ∷ logicals (line + r.0 + 1) rs

abbrev pub are_rows : List (ℕ × Row) → Bool
are_rows rs = list_all (λ (r : ℕ × Row). is_row r.1) rs

-- rows are read back, each as the logical line of its tokens
abbrev pub RowsReadBack : Type 0
RowsReadBack = (rs : List (ℕ × Row)) → are_rows rs ≡ true → tokens_of (rows_text rs) ≡ record { lines = logicals 1 rs; fault = None }

-- only brackets open and close
abbrev pub OnlyBracketsOpen : Type 0
OnlyBracketsOpen = (x : Token) → is_sound x ≡ true → is_bracket x ≡ false → OpensNone (spelled x)

abbrev pub has_sound_tokens : Logical → Bool
has_sound_tokens l = list_all is_sound l.tokens

-- each token of a text is sound
abbrev pub AllTokensAreSound : Type 0
AllTokensAreSound = (text : List ℕ) → list_all has_sound_tokens (tokens_of text).lines ≡ true

-- what is between the quotes of a string is characters of Unicode
abbrev pub GlyphsAreCharacters : Type 0
GlyphsAreCharacters = (s : List ℕ) → all_scalars s ≡ true → all_scalars (glyphs s) ≡ true
