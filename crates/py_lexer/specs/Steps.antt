-- How a piece joins what is read so far, but for the line ends in it.
use Rattle.std.specs.Prelude.{ℕ, ◌+◌, Bool, false, not, ◌&&◌, if◌then◌else◌, nat_lt, nat_le, List, [], ◌∷◌, ◌++◌, length, Option, Some, None, is_none, option_to_list}
use Rattle.pyn_base.specs.declared.construct.Construct.{Construct}
use Rattle.pyn_base.specs.declared.construct.Construct.TheVariants as fault
use Rattle.py_language.specs.declared.token.Mark.{Mark}
use Rattle.py_language.specs.declared.token.Token.{Token}
use Rattle.py_language.specs.declared.token.Token.TheVariants as t
use Rattle.py_language.specs.declared.token.Logical.{Logical}
pub use Rattle.py_language.specs.TokensMarks.{closes}
use Rattle.py_language.specs.TokensLines.{with_tokens}
use Rattle.py_lexer.specs.declared.piece.Piece.{Piece}
use Rattle.py_lexer.specs.declared.piece.Piece.TheVariants as p
use Rattle.py_lexer.specs.declared.reader.Reader.{Reader}
use Rattle.py_lexer.specs.declared.reader.Step.{Step}
use Rattle.py_lexer.specs.declared.reader.Step.TheVariants.{On, End}

abbrev pub stopped : Reader → ℕ → Construct → Step
stopped r n f = End (record { lines = r.lines; fault = Some (r.line + n, f) })

abbrev pub joined : Option Logical → ℕ → ℕ → Token → Option Logical
joined begun line column token = with_tokens (token ∷ []) line column begun

unfoldable pub with_token : Reader → Token → Reader
with_token r token = record r { begun = joined r.begun r.line r.column token; column = 0; undeclared = false }

abbrev pub with_brackets : Reader → List (ℕ × ℕ) → Reader
with_brackets r brackets = record r { brackets = brackets }

abbrev pub opening : Reader → Mark → ℕ → Step
opening r mark c = if nat_lt (length r.brackets) 50 then On (with_token (with_brackets r ((r.line, c) ∷ r.brackets)) (t.Mark mark)) else stopped r 0 fault.Nesting

abbrev pub closing : Reader → Mark → ℕ → List (ℕ × ℕ) → Step
closing r mark c [] = stopped r 0 fault.Bracket
closing r mark c (o ∷ os) = if closes c o.1 then On (with_token (with_brackets r os) (t.Mark mark)) else stopped r 0 fault.Bracket

abbrev pub blanks : Reader → ℕ → Bool → Step
blanks r n has_tab = if has_tab && is_none r.begun then stopped r 0 fault.Tab else On (record r { column = n })

abbrev pub commented : Reader → Bool → Option Construct → Step
commented r declares (Some f) = stopped r 0 f
commented r declares None = On (record r { column = 0; undeclared = not declares && r.undeclared })

abbrev pub comment : Reader → Bool → Bool → Option Construct → Step
comment r declares is_accepted refused = if (nat_le r.line 2 && r.undeclared) && (declares && not is_accepted) then stopped r 0 fault.Encoding else commented r declares refused

abbrev pub line_end : Reader → List (ℕ × ℕ) → Reader
line_end r [] = record r { lines = r.lines ++ option_to_list r.begun; begun = None; column = 0 }
line_end r (o ∷ os) = record r { column = 0 }

unfoldable pub step : Reader → Piece → Step
step r (p.Blanks n has_tab) = blanks r n has_tab
step r (p.Comment declares is_accepted refused) = comment r declares is_accepted refused
step r p.LineEnd = On (line_end r r.brackets)
step r (p.Token token) = On (with_token r token)
step r (p.Opening mark c) = opening r mark c
step r (p.Closing mark c) = closing r mark c r.brackets
step r (p.Fault n f) = stopped r n f
