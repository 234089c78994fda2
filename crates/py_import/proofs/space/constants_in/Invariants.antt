use Rattle.std.proofs.Common.{◌≡◌, ◌++◌, drop, map}
use Rattle.py_import.specs.Kinds.{valued}
use Rattle.py_import.proofs.space.constants_in.Given as goal

abbrev pub invariant-loop-row : goal.invariant-loop-row
invariant-loop-row l = l.constants ++ valued l.names (map (λ row. (row.0.now, row.1.now)) (drop l.row-index l.rows)) ≡ valued l.names (map (λ row. (row.0.now, row.1.now)) l.rows)
