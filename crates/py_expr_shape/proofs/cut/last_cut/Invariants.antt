use Rattle.std.proofs.Common.{◌≡◌, ◌≤◌, ◌+◌, length}
use Rattle.py_expr_shape.specs.Cuts.{place, separates}
use Rattle.py_expr_shape.proofs.CutLemmas.{IsFound}
use Rattle.py_expr_shape.proofs.cut.last_cut.Given as goal

abbrev pub invariant-loop-symbol : goal.invariant-loop-symbol
invariant-loop-symbol l = record {
  found_is : IsFound (separates l.separator) l.symbols (place l.depth l.after) l.rest l.found;
  low : l.depth + length l.rest ≤ length l.symbols;
}

abbrev pub decreases-loop-symbol : goal.decreases-loop-symbol
decreases-loop-symbol l = length l.rest
