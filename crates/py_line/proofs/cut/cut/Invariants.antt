use Rattle.std.proofs.Common.{◌≡◌, ◌≤◌, ◌+◌, length}
use Rattle.py_cut.specs.Cut as cut
use Rattle.py_grammar.specs.Separators.{opened, outside, back}
use Rattle.py_line.proofs.cut.cut.Given as goal

abbrev pub invariant-loop-token : goal.invariant-loop-token
invariant-loop-token l = record {
  back_is : back l.separator l.tokens ≡ cut.back opened (outside l.separator) l.depth l.rest;
  low : l.depth + length l.rest ≤ length l.tokens;
}

abbrev pub decreases-loop-token : goal.decreases-loop-token
decreases-loop-token l = length l.rest
