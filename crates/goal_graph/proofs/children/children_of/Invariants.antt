use Rattle.std.proofs.Common.{◌≡◌, take, length}
use Rattle.goal_graph.proofs.Families.{Lists}
use Rattle.goal_graph.proofs.children.children_of.Given as goal

abbrev pub invariant-loop-parent : goal.invariant-loop-parent
invariant-loop-parent l = record {
  lists : Lists l.lists.items (length l.parents) (take l.parent-index l.parents);
  at : l.number ≡ l.parent-index;
}
