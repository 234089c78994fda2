use Rattle.std.proofs.Common.{◌≡◌, map}
use Rattle.py_language.specs.TreesNumbers.{in_order}
use Rattle.py_nodes.specs.Numbers.{target_numbered}
use Rattle.py_nodes.proofs.Steps.{prepend, left}
use Rattle.py_nodes.proofs.statements.targets.Given as goal

abbrev pub invariant-loop-one : goal.invariant-loop-one
invariant-loop-one l = in_order (map (target_numbered l.counted) l.all) l.number ≡ prepend l.done (left (target_numbered l.counted) l.all l.one-index l.next)
