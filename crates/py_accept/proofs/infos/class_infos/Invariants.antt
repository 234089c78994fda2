use Rattle.std.proofs.Common.{◌≡◌, take, map}
use Rattle.py_accept.specs.Accepted.{class_info}
use Rattle.py_accept.proofs.infos.class_infos.Given as goal

abbrev pub invariant-loop-row : goal.invariant-loop-row
invariant-loop-row l = l.infos ≡ map class_info (take l.row-index l.rows)
