use Rattle.std.proofs.Common.{◌≡◌, map}
use Rattle.py_language.specs.TreesNumbers.{in_order}
use Rattle.py_nodes.specs.Numbers.{item_numbered}
use Rattle.py_nodes.proofs.Steps.{prepend, left}
use Rattle.py_nodes.proofs.modules.number.Given as goal

abbrev pub invariant-loop-one : goal.invariant-loop-one
invariant-loop-one l = in_order (map item_numbered l.all) 0 ≡ prepend l.items (left item_numbered l.all l.one-index l.next)
