-- What the pieces before a place make: its line, the brackets that are open, and the logical lines (Language Reference 2.1).
-- The pieces before a place are listed with the nearest first.
use Rattle.std.specs.Prelude.{ℕ, ◌+◌, Bool, false, if◌then◌else◌, ◌==◌, List, [], ◌∷◌, ◌++◌, length, drop, Option, Some, None, Result, Ok, Err, option_to_list, pos}
use Rattle.pyn_base.specs.declared.construct.Construct.{Construct}
use Rattle.py_language.specs.declared.token.Token.{Token}
use Rattle.py_language.specs.declared.token.Token.TheVariants as t
use Rattle.py_language.specs.declared.token.Mark.{Mark}
use Rattle.py_language.specs.declared.token.Logical.{Logical}
use Rattle.py_language.specs.TokensCharacters.{is_letter, is_digit, is_quote}
use Rattle.py_language.specs.TokensNames.{name_token}
use Rattle.py_language.specs.TokensNumbers.{integer_value}
use Rattle.py_language.specs.TokensStrings.{string_content}
use Rattle.py_language.specs.TokensMarks.{mark_of, is_opening, is_closing}
use Rattle.py_language.specs.TokensPieces.{are_blanks, is_line_end}

-- ---- the token that a piece is, if it is one

abbrev pub string_token : Result (List ℕ) (ℕ × Construct) → List Token
string_token (Ok cs) = t.Str cs ∷ []
string_token (Err e) = []

abbrev pub mark_token : Option Mark → List Token
mark_token (Some mark) = t.Mark mark ∷ []
mark_token None = []

-- by the piece's first character
abbrev pub token_by : ℕ → List ℕ → List Token
token_by c cs =
    if is_letter c then name_token (c ∷ cs) ∷ []
    else (if is_digit c then t.Int (pos (integer_value (c ∷ cs))) ∷ []
    else (if is_quote c then string_token (string_content c cs)
    else mark_token (mark_of (c ∷ cs))))

abbrev pub token_of : List ℕ → List Token
token_of [] = []
token_of (c ∷ cs) = token_by c cs

-- ---- lines and brackets

-- how many line ends a text has
abbrev pub line_feeds : List ℕ → ℕ
line_feeds [] = 0
line_feeds (c ∷ cs) = (if c == 10 then 1 else 0) + line_feeds cs

-- the line on which the next piece begins
unfoldable pub line_after : List (List ℕ) → ℕ
line_after [] = 1
line_after (piece ∷ before) = line_after before + line_feeds piece

-- the brackets that are open, the innermost first: the line of each and its character
abbrev pub Brackets : Type 0
Brackets = List (ℕ × ℕ)

abbrev pub bracket_by : ℕ → ℕ → Brackets → Brackets
bracket_by c line before = if is_opening c then (line, c) ∷ before else (if is_closing c then drop 1 before else before)

abbrev pub bracket_in : List ℕ → ℕ → Brackets → Brackets
bracket_in [] line before = before
bracket_in (c ∷ cs) line before = bracket_by c line before

unfoldable pub open_after : List (List ℕ) → Brackets
open_after [] = []
open_after (piece ∷ before) = bracket_in piece (line_after before) (open_after before)

-- ---- logical lines

abbrev pub is_line_end_in : Brackets → List ℕ → Bool
is_line_end_in [] piece = is_line_end piece
is_line_end_in (o ∷ os) piece = false

-- a line end with no bracket open before it ends a logical line
unfoldable pub ends_line : List ℕ → List (List ℕ) → Bool
ends_line piece before = is_line_end_in (open_after before) piece

-- the number of spaces before the first token of a logical line
abbrev pub column_after : List (List ℕ) → ℕ
column_after [] = 0
column_after (piece ∷ before) = if are_blanks piece then length piece else 0

-- a logical line has the line and the column of its first token
abbrev pub with_tokens : List Token → ℕ → ℕ → Option Logical → Option Logical
with_tokens [] line column begun = begun
with_tokens (x ∷ xs) line column None = Some (record { line = line; column = column; tokens = x ∷ xs })
with_tokens (x ∷ xs) line column (Some l) = Some (record { line = l.line; column = l.column; tokens = l.tokens ++ (x ∷ xs) })

-- the logical line that has a token and has not ended
unfoldable pub line_begun : List (List ℕ) → Option Logical
line_begun [] = None
line_begun (piece ∷ before) = if ends_line piece before then None else with_tokens (token_of piece) (line_after before) (column_after before) (line_begun before)

-- the logical lines that have ended; one without a token vanishes
unfoldable pub lines_ended : List (List ℕ) → List Logical
lines_ended [] = []
lines_ended (piece ∷ before) = lines_ended before ++ (if ends_line piece before then option_to_list (line_begun before) else [])
