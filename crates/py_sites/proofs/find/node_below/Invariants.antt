use Rattle.std.proofs.Common.{◌≡◌, length}
use Rattle.py_sites.specs.Nodes.{nodes, with_number, Ascend}
use Rattle.py_sites.specs.Refs.{seen}
use Rattle.py_sites.proofs.find.node_below.Given as goal

abbrev pub invariant-loop-here : goal.invariant-loop-here
invariant-loop-here l = Ascend (nodes (seen l.top)) → Ascend (nodes (seen l.here)) × (with_number l.number (nodes (seen l.top)) ≡ with_number l.number (nodes (seen l.here)))

abbrev pub decreases-loop-here : goal.decreases-loop-here
decreases-loop-here l = length (nodes (seen l.here))
