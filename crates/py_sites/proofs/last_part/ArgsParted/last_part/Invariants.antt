use Rattle.std.proofs.Common.{◌≡◌}
use Rattle.py_sites.specs.Refs.{seen_option}
use Rattle.py_sites.specs.Walks.{last_from}
use Rattle.py_sites.proofs.Arguments.{left_in_order}
use Rattle.py_sites.proofs.last_part.ArgsParted.last_part.Given as goal

abbrev pub invariant-loop-x : goal.invariant-loop-x
invariant-loop-x l = last_from l.limit (seen_option l.best) (left_in_order l.all 0 l.initial.left) ≡ last_from l.limit (seen_option l.found) (left_in_order l.all l.x-index l.left)
