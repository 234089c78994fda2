use Rattle.std.proofs.Common.{◌≡◌, ◌+◌, length}
use Rattle.py_language.specs.TokensNumbers.{is_digit_below}
use Rattle.py_lexer.specs.Scan.{digits_len}
use Rattle.py_lexer.proofs.number.digits_len.Given as goal

abbrev pub invariant-loop-b : goal.invariant-loop-b
invariant-loop-b l = record {
  value : l.len + digits_len (is_digit_below l.n) l.rest ≡ digits_len (is_digit_below l.n) l.text;
  within : l.len + length l.rest ≡ length l.text;
}

abbrev pub decreases-loop-b : goal.decreases-loop-b
decreases-loop-b l = length l.rest
