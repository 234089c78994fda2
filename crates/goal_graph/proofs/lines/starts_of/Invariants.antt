use Rattle.std.proofs.Common.{◌≡◌, ℕ, take}
use Rattle.goal_graph.specs.Lines.{started, some_nodes, starts}
use Rattle.goal_graph.proofs.lines.starts_of.Given as goal

abbrev pub invariant-loop-point : goal.invariant-loop-point
invariant-loop-point l = (q : ℕ) → started l.lines q ≡ some_nodes (starts (take l.point-index l.points) q)
