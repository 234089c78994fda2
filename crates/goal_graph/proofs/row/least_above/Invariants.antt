use Rattle.std.proofs.Common.{◌≡◌, drop}
use Rattle.goal_graph.specs.Graph.{least_above}
use Rattle.goal_graph.proofs.row.least_above.Given as goal

abbrev pub invariant-loop-node : goal.invariant-loop-node
invariant-loop-node l = least_above (drop l.node-index l.nodes) l.least ≡ least_above l.nodes l.initial.least
