use Rattle.std.proofs.Common.{◌≡◌, take, map}
use Rattle.py_accept.proofs.infos.method_ids.Given as goal

abbrev pub invariant-loop-row : goal.invariant-loop-row
invariant-loop-row l = l.ids ≡ map (λ row. row.1) (take l.row-index l.rows)
