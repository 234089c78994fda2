use Rattle.std.proofs.Common.{◌≡◌, drop}
use Rattle.std.specs.List.{list_any}
use Rattle.std.specs.Prelude.{slice_get}
use Rattle.py_frames.specs.Marked.{has_begun}
use Rattle.goal_graph.proofs.row.has_begun.Given as goal

abbrev pub invariant-loop-node : goal.invariant-loop-node
invariant-loop-node l = list_any (λ node. has_begun (slice_get l.marks node.0)) (drop l.node-index l.nodes) ≡ list_any (λ node. has_begun (slice_get l.marks node.0)) l.nodes
