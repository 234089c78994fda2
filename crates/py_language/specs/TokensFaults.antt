-- The rows of lexical faults. Each looks at a piece, at the pieces before it (the nearest first) and at the text behind it.
use Rattle.std.specs.Prelude.{ℕ, ◌+◌, ◌^◌, Bool, true, false, not, ◌&&◌, ◌||◌, if◌then◌else◌, ◌==◌, nat_lt, nat_le, List, [], ◌∷◌, length, Option, Some, None, is_none, Result, Ok, Err, option_map}
use Rattle.std.specs.List.{list_all, list_any}
use Rattle.pyn_base.specs.declared.construct.Construct.{Construct}
use Rattle.pyn_base.specs.declared.construct.Construct.TheVariants as fault
use Rattle.py_language.specs.declared.token.Token.{Token}
use Rattle.py_language.specs.TokensCharacters.{is_letter, is_digit, is_word, is_blank, is_quote, begins, not_utf8, decoded}
use Rattle.py_language.specs.TokensNames.{is_string_prefix}
use Rattle.py_language.specs.TokensNumbers.{is_nil, integer_value}
use Rattle.py_language.specs.TokensStrings.{refused, string_content}
use Rattle.py_language.specs.TokensMarks.{is_mark, is_opening, is_closing, closes}
use Rattle.py_language.specs.TokensPieces.{is_comment}
use Rattle.py_language.specs.TokensEncoding.{declared_encoding, is_accepted}
use Rattle.py_language.specs.TokensLines.{Brackets, token_of, line_after, open_after, line_begun}

abbrev pub unless : Bool → Construct → Option Construct
unless is_sound f = if is_sound then None else Some f

-- `string prefix`: a name that is one, directly before a quote
unfoldable pub name_fault : List ℕ → List ℕ → Option Construct
name_fault piece after = unless (not (is_string_prefix piece && begins is_quote after)) fault.StringPrefix

-- `number`: an integer followed by a letter, `_`, a digit or `.`, which every number of another form is; `integer range`
unfoldable pub number_fault : List ℕ → List ℕ → Option Construct
number_fault piece after =
    if begins (λ c. is_word c || c == 46) after then Some fault.Number
    else unless (nat_lt (integer_value piece) (2 ^ 127)) fault.IntegerRange

-- `tab`: one before the first token of a logical line; where a line end or a comment follows there is none
unfoldable pub blank_fault : List (List ℕ) → List ℕ → List ℕ → Option Construct
blank_fault before piece after =
    unless (not (list_any (λ c. c == 9) piece && is_none (line_begun before)) || begins (λ c. c == 10 || c == 35) after) fault.Tab

-- the first character that may stand nowhere: `encoding` and `character`
abbrev pub first_refused : List ℕ → Option Construct
first_refused [] = None
first_refused (c ∷ cs) = or_else (refused c) (first_refused cs)
  where
    or_else : Option Construct → Option Construct → Option Construct
    or_else None rest = rest
    or_else (Some f) rest = Some f

abbrev pub declares : List ℕ → Bool
declares piece = is_comment piece && not (is_nil (declared_encoding piece))

abbrev pub is_no_token : List Token → Bool
is_no_token [] = true
is_no_token (x ∷ xs) = false

-- neither a token nor a declaration
abbrev pub is_silent : List ℕ → Bool
is_silent piece = is_no_token (token_of piece) && not (declares piece)

-- a comment declares an encoding on the first two lines, before any token, where no comment before it does
abbrev pub may_declare : List (List ℕ) → Bool
may_declare before = nat_le (line_after before) 2 && list_all is_silent before

-- `encoding`: a comment that declares one that is not accepted
unfoldable pub comment_fault : Bool → List (List ℕ) → List ℕ → Option Construct
comment_fault has_mark before piece =
    if may_declare before && (declares piece && not (is_accepted has_mark (declared_encoding piece))) then Some fault.Encoding
    else first_refused (decoded piece)

-- `bracket`: a closing bracket that does not match the innermost open one
abbrev pub closing_fault : ℕ → Brackets → Option Construct
closing_fault c [] = Some fault.Bracket
closing_fault c (o ∷ os) = unless (closes c o.1) fault.Bracket

-- `number`: a `.` before a digit; `nesting`: a 51st open bracket
unfoldable pub mark_fault : List (List ℕ) → ℕ → List ℕ → List ℕ → Option Construct
mark_fault before c cs after =
    if c == 46 && (is_nil cs && begins is_digit after) then Some fault.Number
    else (if is_opening c then unless (nat_lt (length (open_after before)) 50) fault.Nesting
    else (if is_closing c then closing_fault c (open_after before) else None))

-- `backslash`, `encoding` and `character`: what begins no piece
unfoldable pub stray_fault : ℕ → List ℕ → Option Construct
stray_fault c after =
    if c == 92 then Some fault.Backslash
    else (if begins (λ d. d == not_utf8) (decoded (c ∷ after)) then Some fault.Encoding else Some fault.Character)

-- `string`: one that is not closed, which is a quote alone; and the first fault inside a string that is closed
abbrev pub error_of : {X Y : Type 0} → Result X Y → Option Y
error_of (Ok x) = None
error_of (Err e) = Some e

unfoldable pub string_fault : ℕ → List ℕ → Option (ℕ × Construct)
string_fault q cs = if is_nil cs then Some (0, fault.String) else error_of (string_content q cs)

abbrev pub here : ℕ → Option Construct → Option (ℕ × Construct)
here line found = option_map (λ f. (line, f)) found

abbrev pub from_line : ℕ → Option (ℕ × Construct) → Option (ℕ × Construct)
from_line line found = option_map (λ f. (line + f.0, f.1)) found

-- the fault of a piece and its line, if it has one: by the piece's first character
unfoldable pub fault_by : Bool → List (List ℕ) → ℕ → List ℕ → List ℕ → Option (ℕ × Construct)
fault_by has_mark before c cs after =
    if is_quote c then from_line (line_after before) (string_fault c cs)
    else here (line_after before) (if is_letter c then name_fault (c ∷ cs) after
    else (if is_digit c then number_fault (c ∷ cs) after
    else (if is_blank c then blank_fault before (c ∷ cs) after
    else (if c == 35 then comment_fault has_mark before (c ∷ cs)
    else (if c == 10 then None
    else (if is_mark (c ∷ cs) then mark_fault before c cs after
    else stray_fault c after))))))

abbrev pub fault_of : Bool → List (List ℕ) → List ℕ → List ℕ → Option (ℕ × Construct)
fault_of has_mark before [] after = None
fault_of has_mark before (c ∷ cs) after = fault_by has_mark before c cs after
