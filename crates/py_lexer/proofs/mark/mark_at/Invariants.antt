use Rattle.std.proofs.Common.{◌≡◌, ◌≤◌, length, min}
use Rattle.py_lexer.specs.Scan.{longest_mark}
use Rattle.py_lexer.proofs.mark.mark_at.Given as goal

abbrev pub invariant-loop-len : goal.invariant-loop-len
invariant-loop-len l = record {
  value : longest_mark l.len l.text ≡ longest_mark (min 3 (length l.text)) l.text;
  within : l.len ≤ length l.text;
}

abbrev pub decreases-loop-len : goal.decreases-loop-len
decreases-loop-len l = l.len
