use Rattle.std.proofs.Common.{◌≡◌, ◌≤◌, drop, length}
use Rattle.goal_model.specs.declared.kind.GoalKind.{GoalKind}
use Rattle.goal_graph.specs.Numbers.{found_in, first_number}
use Rattle.goal_graph.proofs.numbers.numbers_of.Given as goal

abbrev pub invariant-loop-at : goal.invariant-loop-at
invariant-loop-at l = record {
  within : l.at ≤ length l.rows;
  found : (q : GoalKind) → found_in l.numbers q ≡ first_number l.at (drop l.at l.rows) q;
}

abbrev pub decreases-loop-at : goal.decreases-loop-at
decreases-loop-at l = l.at
