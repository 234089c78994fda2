use Rattle.std.proofs.Common.{◌≡◌, ◌++◌, drop, map}
use Rattle.goal_graph.specs.Lines.{trees}
use Rattle.goal_graph.proofs.build.functions_of.Given as goal

abbrev pub invariant-loop-item : goal.invariant-loop-item
invariant-loop-item l = map (λ f. f.now) l.functions.items ++ trees (drop l.item-index l.tree.items) ≡ trees l.tree.items
