use Rattle.std.proofs.Common.{◌≤◌, ◌+◌, length}
use Rattle.py_line.proofs.CutLemmas.{IsFound}
use Rattle.py_line.proofs.cut.last_cut.Given as goal

abbrev pub invariant-loop-token : goal.invariant-loop-token
invariant-loop-token l = record {
  found_is : IsFound l.separator l.tokens l.depth l.rest l.found;
  low : l.depth + length l.rest ≤ length l.tokens;
}

abbrev pub decreases-loop-token : goal.decreases-loop-token
decreases-loop-token l = length l.rest
