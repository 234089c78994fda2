use Rattle.std.proofs.Common.{◌≡◌, take, map}
use Rattle.py_accept.proofs.infos.constants_of.Given as goal

abbrev pub invariant-loop-row : goal.invariant-loop-row
invariant-loop-row l = l.all ≡ map (λ row. (row.0.now, row.1.now)) (take l.row-index l.rows)
