use Rattle.std.proofs.Common.{◌≡◌, ◌++◌, drop, map}
use Rattle.goal_graph.specs.Lines.{goals_of_trees, trees}
use Rattle.goal_graph.proofs.build.rows_of.Given as goal

abbrev pub invariant-loop-f : goal.invariant-loop-f
invariant-loop-f l = record {
  rows : l.rows.items ++ goals_of_trees l.number (map (λ f. f.now) (drop l.f-index l.f-items)) ≡ goals_of_trees 0 (trees l.tree.items);
  at : l.number ≡ l.f-index;
}
