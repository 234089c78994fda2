use Rattle.std.proofs.Common.{◌≡◌, ℕ, take}
use Rattle.std.specs.Ordering.{nat_cmp}
use Rattle.std.specs.BTreeSet as tree
use Rattle.goal_graph.specs.Targets.{is_in}
use Rattle.goal_graph.proofs.parents.numbers_in.Given as goal

abbrev pub invariant-loop-number : goal.invariant-loop-number
invariant-loop-number l = (q : ℕ) → tree.contains nat_cmp l.set q ≡ is_in (take l.number-index l.covered) q
