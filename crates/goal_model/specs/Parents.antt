-- Goals by their numbers: the parent of each, the chain from a root to it, what takes it, and which goals are next to be reached.
use Rattle.std.specs.Prelude.{ℕ, zero, suc, ◌+◌, Bool, true, false, List, [], ◌∷◌, ◌++◌, ◌&&◌, ◌==◌, if◌then◌else◌, not, Option, None, Some, slice_get}
use Rattle.std.specs.List.{list_any, position_or_len}
use Rattle.std.specs.Option.{option_map}
use Rattle.pyn_base.specs.declared.ids.NodeId.{NodeId}
use Rattle.goal_model.specs.declared.kind.GoalKind.{GoalKind}
use Rattle.goal_model.specs.declared.kind.GoalKind.TheVariants.{Entry, Branch, Reached}
use Rattle.goal_model.specs.Goals.{Goal}
use Rattle.goal_model.specs.Taken.{agrees}

abbrev pub same_kind : GoalKind → GoalKind → Bool
same_kind (Entry a) (Entry b) = a.0 == b.0
same_kind (Branch a x) (Branch b y) = a.0 == b.0 && agrees x y
same_kind (Reached a) (Reached b) = a.0 == b.0
same_kind _ _ = false

-- the number of the goal that is about this: its place in the list
abbrev pub number_of : List Goal → GoalKind → ℕ
number_of goals kind = position_or_len (λ goal. same_kind kind goal.kind) goals

-- an entry has no parent, and every other goal has one
abbrev pub parent_of : List Goal → Goal → Option ℕ
parent_of goals goal = option_map (number_of goals) goal.parent

module _ (goals : List Goal) where
  abbrev pub parent_in : Option Goal → Option ℕ
  parent_in None = None
  parent_in (Some goal) = parent_of goals goal

  abbrev pub behind : ℕ → Option (List ℕ) → List ℕ
  behind number None = number ∷ []
  behind number (Some chain) = chain ++ number ∷ []

  -- the chain from a root to a goal, of which the goal is the last, at most so many times up
  abbrev pub chain_up : ℕ → ℕ → List ℕ
  chain_up zero number = number ∷ []
  chain_up (suc bound) number = behind number (option_map (chain_up bound) (parent_in (slice_get goals number)))

  -- a parent stands before its goal, so there are fewer than its number above a goal
  abbrev pub chain : ℕ → List ℕ
  chain number = chain_up (suc number) number

  abbrev pub is_ready : List ℕ → Option ℕ → Bool
  is_ready covered None = true
  is_ready covered (Some parent) = list_any (λ c. c == parent) covered

  -- the goals that aren't covered, and whose parent is, from a number on
  abbrev pub targets_from : List ℕ → ℕ → List Goal → List ℕ
  targets_from covered number [] = []
  targets_from covered number (goal ∷ more) =
      (if not (list_any (λ c. c == number) covered) && is_ready covered (parent_of goals goal) then number ∷ [] else [])
      ++ targets_from covered (number + 1) more

  abbrev pub targets : List ℕ → List ℕ
  targets covered = targets_from covered 0 goals

-- what takes a goal: the beginning of its function, or of the first statement on its line, or an outcome of its decision
abbrev pub mark_by : GoalKind → List NodeId → Option (NodeId × Option Bool)
mark_by (Branch node outcome) nodes = Some (node, Some outcome)
mark_by kind [] = None
mark_by kind (node ∷ more) = Some (node, None)

abbrev pub mark_of : Goal → Option (NodeId × Option Bool)
mark_of goal = mark_by goal.kind goal.nodes
