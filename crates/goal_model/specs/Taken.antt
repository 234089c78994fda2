-- What the trail of a run takes: an entry where its function began, a line where a statement on it began, a branch where its decision had
-- that outcome.
use Rattle.std.specs.Prelude.{Bool, true, false, List, ◌&&◌, ◌==◌, not}
use Rattle.std.specs.List.{list_any}
use Rattle.pyn_base.specs.declared.ids.NodeId.{NodeId}
use Rattle.py_plain.specs.Tests.{Trail, Event, Began, Decided}
use Rattle.goal_model.specs.declared.kind.GoalKind.{GoalKind}
use Rattle.goal_model.specs.declared.kind.GoalKind.TheVariants.{Branch}
use Rattle.goal_model.specs.Goals.{Goal}

abbrev pub begins : NodeId → Event → Bool
begins node (Began began) = began.0 == node.0
begins node (Decided decided judged outcome) = false

abbrev pub agrees : Bool → Bool → Bool
agrees true outcome = outcome
agrees false outcome = not outcome

abbrev pub has_outcome : NodeId → Bool → Event → Bool
has_outcome node wanted (Began began) = false
has_outcome node wanted (Decided decided judged outcome) = decided.0 == node.0 && agrees wanted outcome

abbrev pub takes : Trail → GoalKind → List NodeId → Bool
takes trail (Branch node outcome) nodes = list_any (has_outcome node outcome) trail
takes trail _ nodes = list_any (λ node. list_any (begins node) trail) nodes

abbrev pub is_taken : Trail → Goal → Bool
is_taken trail goal = takes trail goal.kind goal.nodes
