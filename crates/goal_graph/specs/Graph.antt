-- What is asked of goals by their numbers, and of the marks that a run leaves.
use Rattle.std.specs.Prelude.{◌≡◌, ℕ, suc, ◌+◌, ◌<◌, ◌^◌, max, Bool, false, ◌==◌, if◌then◌else◌, List, [], ◌∷◌, ◌++◌, length, map, Option, None, Some, slice_get, slice_set}
use Rattle.std.specs.List.{list_any}
use Rattle.std.specs.Option.{option_map}
use Rattle.pyn_base.specs.declared.ids.GoalId.{GoalId}
use Rattle.pyn_base.specs.declared.ids.NodeId.{NodeId}
use Rattle.py_frames.specs.declared.marks.Mark.{Mark}
use Rattle.py_frames.specs.Marked.{has_begun, has_come, marked, begun, came}
use Rattle.py_plain.specs.Tests.{Trail, Began, Decided}
use Rattle.goal_model.specs.declared.kind.GoalKind.{GoalKind}
use Rattle.goal_model.specs.declared.kind.GoalKind.TheVariants.{Branch}
use Rattle.goal_model.specs.Goals.{Goal}
use Rattle.goal_model.specs.Parents.{parent_of, parent_in, mark_of}

abbrev pub goal_id : ℕ → GoalId
goal_id number = record { 0 = number }

-- ---- parents and children

-- the number of the parent of a goal, of a goal that there is
abbrev pub parent_number : List Goal → ℕ → Option ℕ
parent_number goals number = parent_in goals (slice_get goals number)

abbrev pub parent_id : GoalId → List Goal → Option GoalId
parent_id goal goals = option_map goal_id (parent_number goals goal.0)

abbrev pub parent_ids : List Goal → List (Option GoalId)
parent_ids goals = map (λ goal. option_map goal_id (parent_of goals goal)) goals

-- of what is kept of a goal
abbrev pub or_no_parent : Option (Option GoalId) → Option GoalId
or_no_parent None = None
or_no_parent (Some parent) = parent

abbrev pub is_parent : GoalId → Option GoalId → Bool
is_parent goal None = false
is_parent goal (Some parent) = parent.0 == goal.0

-- the goals that have a parent, where these are the parents of the goals from a number on
abbrev pub children_from : GoalId → ℕ → List (Option GoalId) → List GoalId
children_from goal number [] = []
children_from goal number (parent ∷ parents) = (if is_parent goal parent then goal_id number ∷ [] else []) ++ children_from goal (number + 1) parents

-- the goals whose parent is this one, in order
abbrev pub children_of : List Goal → GoalId → List GoalId
children_of goals goal = children_from goal 0 (parent_ids goals)

abbrev pub child_into : List (List GoalId) → GoalId → GoalId → Option (List GoalId) → List (List GoalId)
child_into lists parent child None = lists
child_into lists parent child (Some list) = slice_set lists parent.0 (list ++ child ∷ [])

-- the lists of children, with one more
abbrev pub child_added : List (List GoalId) → GoalId → GoalId → List (List GoalId)
child_added lists parent child = child_into lists parent child (slice_get lists parent.0)

abbrev pub parent_added : List (List GoalId) → Option GoalId → GoalId → List (List GoalId)
parent_added lists None child = lists
parent_added lists (Some parent) child = child_added lists parent child

-- ---- marks

abbrev pub mark_or_none : Option (NodeId × Option Bool) → NodeId × Option Bool
mark_or_none None = (record { 0 = 0 }, None)
mark_or_none (Some mark) = mark

abbrev pub mark_in : Option Goal → NodeId × Option Bool
mark_in None = mark_or_none None
mark_in (Some goal) = mark_or_none (mark_of goal)

-- what takes a goal of a number
abbrev pub mark_at : GoalId → List Goal → NodeId × Option Bool
mark_at goal goals = mark_in (slice_get goals goal.0)

abbrev pub least_above : List NodeId → ℕ → ℕ
least_above [] least = least
least_above (node ∷ nodes) least = least_above nodes (max (suc node.0) least)

abbrev pub nodes_from : List Goal → ℕ → ℕ
nodes_from [] least = least
nodes_from (goal ∷ goals) least = nodes_from goals (least_above ((mark_or_none (mark_of goal)).0 ∷ goal.nodes) least)

-- the least number above those of all nodes that goals are about
abbrev pub nodes_of : List Goal → ℕ
nodes_of goals = nodes_from goals 0

-- whether marks have what takes a goal of this kind, at these nodes
abbrev pub is_marked_by : List Mark → GoalKind → List NodeId → Bool
is_marked_by marks (Branch node outcome) nodes = has_come outcome (slice_get marks node.0)
is_marked_by marks _ nodes = list_any (λ node. has_begun (slice_get marks node.0)) nodes

abbrev pub is_marked : List Mark → Goal → Bool
is_marked marks goal = is_marked_by marks goal.kind goal.nodes

-- the marks that a trail leaves
abbrev pub marked_by : Trail → List Mark → List Mark
marked_by [] marks = marks
marked_by (Began node ∷ trail) marks = marked_by trail (marked begun node marks)
marked_by (Decided node judged outcome ∷ trail) marks = marked_by trail (marked (came outcome) node marks)

-- ---- what is kept beside goals

pub record IsGraph (goals : List Goal) (parents : List (Option GoalId)) (children : List (List GoalId)) (nodes : ℕ) : Type 0 where
  pub small : length goals < 2 ^ 32
  pub parents_are : parents ≡ parent_ids goals
  pub children_are : (k : ℕ) → k < length goals → slice_get children k ≡ Some (children_of goals (goal_id k))
  pub earlier : (k p : ℕ) → parent_number goals k ≡ Some p → p < k
  pub nodes_are : nodes ≡ nodes_of goals
