use Rattle.std.proofs.Common.{◌≡◌, ◌+◌, false, length}
use Rattle.py_language.specs.TokensStrings.{plus, closing}
use Rattle.py_lexer.proofs.quoted.closing.Given as goal

abbrev pub invariant-loop-b : goal.invariant-loop-b
invariant-loop-b l = record {
  value : plus l.len (closing l.quote l.is_long l.is_hidden l.rest) ≡ closing l.quote l.is_long false l.text;
  within : l.len + length l.rest ≡ length l.text;
}

abbrev pub decreases-loop-b : goal.decreases-loop-b
decreases-loop-b l = length l.rest
