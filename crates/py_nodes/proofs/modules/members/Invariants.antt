use Rattle.std.proofs.Common.{◌≡◌, map}
use Rattle.py_language.specs.TreesNumbers.{in_order}
use Rattle.py_nodes.specs.Numbers.{member_numbered}
use Rattle.py_nodes.proofs.Steps.{prepend, left}
use Rattle.py_nodes.proofs.modules.members.Given as goal

abbrev pub invariant-loop-one : goal.invariant-loop-one
invariant-loop-one l = in_order (map member_numbered l.all) l.number ≡ prepend l.done (left member_numbered l.all l.one-index l.next)
