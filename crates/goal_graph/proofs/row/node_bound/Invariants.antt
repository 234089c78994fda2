use Rattle.std.proofs.Common.{◌≡◌, drop}
use Rattle.goal_graph.specs.Graph.{nodes_from, nodes_of}
use Rattle.goal_graph.proofs.row.node_bound.Given as goal

abbrev pub invariant-loop-row : goal.invariant-loop-row
invariant-loop-row l = nodes_from (drop l.row-index l.rows) l.least ≡ nodes_of l.rows
