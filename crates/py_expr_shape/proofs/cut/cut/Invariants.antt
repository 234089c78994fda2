use Rattle.std.proofs.Common.{◌≡◌, ◌≤◌, ◌+◌, length}
use Rattle.py_cut.specs.Cut as cut
use Rattle.py_language.specs.TreesPlaces.{next, back}
use Rattle.py_expr_shape.specs.Cuts.{place, separates}
use Rattle.py_expr_shape.proofs.cut.cut.Given as goal

abbrev pub invariant-loop-symbol : goal.invariant-loop-symbol
invariant-loop-symbol l = record {
  back_is : back (separates l.separator) l.symbols ≡ cut.back next (separates l.separator) (place l.depth l.after) l.rest;
  low : l.depth + length l.rest ≤ length l.symbols;
}

abbrev pub decreases-loop-symbol : goal.decreases-loop-symbol
decreases-loop-symbol l = length l.rest
