-- Lines of tokens at their columns, as modules and suite files are made of, and that they are read back.
use Rattle.std.specs.Prelude.{◌≡◌, ℕ, ◌+◌, Bool, true, false, ◌&&◌, List, [], ◌∷◌, ◌++◌, replicate, None, encode_utf8_all}
use Rattle.std.specs.List.{list_all}
use Rattle.std.specs.Str.{all_scalars}
use Rattle.py_language.specs.declared.token.Logical.{Logical}
use Rattle.py_language.specs.declared.token.Token.{Token}
use Rattle.py_language.specs.Tokens.{tokens_of}
use Rattle.py_spelling.specs.Spelling.{is_sound, is_balanced}
use Rattle.py_printer.specs.Style.{text_of}

-- blank lines, and the tokens of a line at a column
pub record Line : Type 0 where
  pub blanks : ℕ
  pub column : ℕ
  pub tokens : List Token

abbrev pub line_text : Line → List ℕ
line_text l = replicate l.blanks 10 ++ (replicate l.column 32 ++ (text_of l.tokens ++ 10 ∷ []))

abbrev pub lines_text : List Line → List ℕ
lines_text [] = []
lines_text (l ∷ ls) = line_text l ++ lines_text ls

abbrev pub has_tokens : List Token → Bool
has_tokens [] = false
has_tokens (x ∷ xs) = true

-- there are tokens, which a text can hold, and their brackets close in order
abbrev pub is_line : Line → Bool
is_line l = has_tokens l.tokens && (list_all is_sound l.tokens && is_balanced [] l.tokens)

-- the logical lines, from a line number on
abbrev pub logicals : ℕ → List Line → List Logical
logicals number [] = []
logicals number (l ∷ ls) = record { line = number + l.blanks; column = l.column; tokens = l.tokens } ∷ logicals (number + l.blanks + 1) ls

-- lines are read back, each as the logical line of its tokens
abbrev pub LinesReadBack : Type 0
LinesReadBack = (ls : List Line) → list_all is_line ls ≡ true → tokens_of (encode_utf8_all (lines_text ls)) ≡ record { lines = logicals 1 ls; fault = None }

-- the text of tokens that a text can hold is characters of Unicode
abbrev pub TextsAreCharacters : Type 0
TextsAreCharacters = (ts : List Token) → list_all is_sound ts ≡ true → all_scalars (text_of ts) ≡ true
