use Rattle.std.proofs.Common.{◌≡◌, length}
use Rattle.std.specs.Prelude.{None}
use Rattle.py_sites.specs.Nodes.{nodes}
use Rattle.py_sites.specs.Refs.{seen}
use Rattle.py_sites.specs.Walks.{last_from}
use Rattle.py_sites.proofs.find.last_below.Given as goal

abbrev pub invariant-loop-part : goal.invariant-loop-part
invariant-loop-part l = last_from None None (nodes (seen l.top)) ≡ last_from None None (nodes (seen l.here))

abbrev pub decreases-loop-part : goal.decreases-loop-part
decreases-loop-part l = length (nodes (seen l.here))
