use Rattle.std.proofs.Common.{◌≡◌, ◌++◌, take, drop}
use Rattle.goal_graph.specs.Blocks.{all_points, clauses_points, arms_points, governor_after}
use Rattle.goal_graph.proofs.points.+points.Given as goal

abbrev pub invariant-add_block-loop-stmt : goal.invariant-add_block-loop-stmt
invariant-add_block-loop-stmt l = l.to.items ≡ l.fn.to.items ++ all_points l.fn.governor (take l.stmt-index l.body)

abbrev pub invariant-add_maybe-loop-stmt : goal.invariant-add_maybe-loop-stmt
invariant-add_maybe-loop-stmt l = l.to.items ≡ l.fn.to.items ++ all_points l.fn.governor (take l.stmt-index l.all)

abbrev pub invariant-add_clauses-loop-clause : goal.invariant-add_clauses-loop-clause
invariant-add_clauses-loop-clause l = l.to.items ≡ l.fn.to.items ++ clauses_points l.fn.governor (take l.clause-index l.clauses)

abbrev pub invariant-add_arms-loop-arm : goal.invariant-add_arms-loop-arm
invariant-add_arms-loop-arm l = record {
  points : l.to.items ++ arms_points l.outer (drop l.arm-index l.all) ≡ l.fn.to.items ++ arms_points l.fn.governor l.all;
  outer : governor_after l.outer (drop l.arm-index l.all) ≡ governor_after l.fn.governor l.all;
}
