use Rattle.std.proofs.Common.{◌≡◌, ◌++◌, reverse}
use Rattle.goal_model.specs.Parents.{chain}
use Rattle.goal_graph.proofs.Chains.{chain_to, left_of}
use Rattle.goal_graph.proofs.goals.Goals.up_from.Given as goal

abbrev pub invariant-loop-next : goal.invariant-loop-next
invariant-loop-next l = chain_to l.self l.next ++ reverse l.up.items ≡ chain l.self l.fn.goal.0

abbrev pub decreases-loop-next : goal.decreases-loop-next
decreases-loop-next l = left_of l.next
