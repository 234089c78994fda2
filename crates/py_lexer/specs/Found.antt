-- What the piece at the front of a text is, as the code has it, in the words of the definition.
use Rattle.std.specs.Prelude.{◌≡◌, ℕ, suc, ◌<◌, ◌≤◌, Bool, false, not, ◌&&◌, ◌||◌, if◌then◌else◌, ◌==◌, List, [], ◌∷◌, length, take, drop, Option, Some, None, Ok, Err, pos}
use Rattle.std.specs.List.{list_any}
use Rattle.pyn_base.specs.declared.construct.Construct.{Construct}
use Rattle.pyn_base.specs.declared.construct.Construct.TheVariants as fault
use Rattle.py_language.specs.declared.token.Mark.{Mark}
use Rattle.py_language.specs.declared.token.Token.TheVariants as t
use Rattle.py_language.specs.TokensCharacters.{is_letter, is_digit, is_blank, is_quote, begins, decoded}
use Rattle.py_language.specs.TokensNames.{name_token}
use Rattle.py_language.specs.TokensNumbers.{integer_value, is_nil}
use Rattle.py_language.specs.TokensStrings.{Content, string_content}
use Rattle.py_language.specs.TokensMarks.{mark_of, is_opening, is_closing}
use Rattle.py_language.specs.TokensPieces.{piece_len}
use Rattle.py_language.specs.TokensEncoding.{declared_encoding, is_accepted}
use Rattle.py_language.specs.TokensFaults.{name_fault, number_fault, first_refused, stray_fault}
use Rattle.py_lexer.specs.declared.piece.Piece.{Piece}
use Rattle.py_lexer.specs.declared.piece.Piece.TheVariants as p

abbrev pub or_fault : Option Construct → Piece → Piece
or_fault None piece = piece
or_fault (Some f) piece = p.Fault 0 f

unfoldable pub name_found : List ℕ → List ℕ → Piece
name_found piece after = or_fault (name_fault piece after) (p.Token (name_token piece))

unfoldable pub number_found : List ℕ → List ℕ → Piece
number_found piece after = or_fault (number_fault piece after) (p.Token (t.Int (pos (integer_value piece))))

abbrev pub content_found : Content → Piece
content_found (Ok cs) = p.Token (t.Str cs)
content_found (Err e) = p.Fault e.0 e.1

unfoldable pub string_found : ℕ → List ℕ → Piece
string_found q cs = if is_nil cs then p.Fault 0 fault.String else content_found (string_content q cs)

-- with whether a tab among the blanks would be a fault before a first token
abbrev pub blanks_found : List ℕ → List ℕ → Piece
blanks_found piece after = p.Blanks (length piece) (list_any (λ c. c == 9) piece && not (begins (λ c. c == 10 || c == 35) after))

abbrev pub comment_found : Bool → List ℕ → Piece
comment_found has_mark piece = p.Comment (not (length (declared_encoding piece) == 0)) (is_accepted has_mark (declared_encoding piece)) (first_refused (decoded piece))

abbrev pub bracket_found : ℕ → Mark → Piece
bracket_found c mark = if is_opening c then p.Opening mark c else (if is_closing c then p.Closing mark c else p.Token (t.Mark mark))

-- a mark, or a character at which nothing begins
unfoldable pub mark_found : ℕ → List ℕ → List ℕ → Option Mark → Piece
mark_found c cs after None = or_fault (stray_fault c after) p.LineEnd
mark_found c cs after (Some mark) = if c == 46 && (is_nil cs && begins is_digit after) then p.Fault 0 fault.Number else bracket_found c mark

unfoldable pub found_by : Bool → ℕ → List ℕ → List ℕ → Piece
found_by has_mark c cs after =
    if is_quote c then string_found c cs
    else (if is_letter c then name_found (c ∷ cs) after
    else (if is_digit c then number_found (c ∷ cs) after
    else (if is_blank c then blanks_found (c ∷ cs) after
    else (if c == 35 then comment_found has_mark (c ∷ cs)
    else (if c == 10 then p.LineEnd
    else mark_found c cs after (mark_of (c ∷ cs)))))))

-- the piece at the front of a text, whose first character is c, takes k characters more
pub record FoundAt (has_mark : Bool) (c : ℕ) (cs : List ℕ) (piece : Piece) (k : ℕ) : Type 0 where
  pub byte : c < 256
  pub len : piece_len c cs ≡ suc k
  pub within : k ≤ length cs
  pub what : piece ≡ found_by has_mark c (take k cs) (drop k cs)

abbrev pub FrontIs : Bool → List ℕ → Piece → ℕ → Type 0
FrontIs has_mark [] piece k = ⊥
FrontIs has_mark (c ∷ cs) piece k = FoundAt has_mark c cs piece k

-- a first character of no class that is told at once
pub record Other (c : ℕ) : Type 0 where
  pub quote : is_quote c ≡ false
  pub letter : is_letter c ≡ false
  pub digit : is_digit c ≡ false
  pub blank : is_blank c ≡ false
  pub hash : (c == 35) ≡ false
  pub feed : (c == 10) ≡ false
