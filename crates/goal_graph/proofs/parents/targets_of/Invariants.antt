use Rattle.std.proofs.Common.{◌≡◌, ◌++◌, drop}
use Rattle.std.specs.BTreeSet as tree
use Rattle.std.specs.Ordering.{nat_cmp}
use Rattle.goal_graph.specs.Targets.{targets_from_parents}
use Rattle.goal_graph.proofs.parents.targets_of.Given as goal

abbrev pub invariant-loop-parent : goal.invariant-loop-parent
invariant-loop-parent l = record {
  ids : l.ids ++ targets_from_parents (λ q. tree.contains nat_cmp l.set q) l.number (drop l.parent-index l.parents) ≡ targets_from_parents (λ q. tree.contains nat_cmp l.set q) 0 l.parents;
  at : l.number ≡ l.parent-index;
}
