-- The numbers of goals by what they are about.
use Rattle.std.specs.Prelude.{ℕ, ◌+◌, true, false, if◌then◌else◌, List, [], ◌∷◌, Option, None, Some}
use Rattle.std.specs.Ordering.{nat_cmp}
use Rattle.std.specs.BTreeMap.{get}
use Rattle.goal_model.specs.declared.kind.GoalKind.{GoalKind}
use Rattle.goal_model.specs.declared.kind.GoalKind.TheVariants.{Entry, Branch, Reached}
use Rattle.pyn_base.specs.declared.ids.GoalId.{GoalId}
use Rattle.goal_model.specs.Goals.{Goal}
use Rattle.goal_model.specs.Parents.{same_kind}
use Rattle.goal_graph.specs.declared.numbers.Numbers.{Numbers}

abbrev pub found_in : Numbers → GoalKind → Option ℕ
found_in numbers (Entry f) = get nat_cmp numbers.entries f.0
found_in numbers (Branch node true) = get nat_cmp numbers.held node.0
found_in numbers (Branch node false) = get nat_cmp numbers.failed node.0
found_in numbers (Reached node) = get nat_cmp numbers.reached node.0

abbrev pub found_after : (GoalKind → Option ℕ) → GoalKind → ℕ → GoalKind → Option ℕ
found_after found kind number q = if same_kind q kind then Some number else found q

-- the number of the first goal that is about something, where the goals have numbers from here on
abbrev pub first_number : ℕ → List Goal → GoalKind → Option ℕ
first_number number [] kind = None
first_number number (goal ∷ goals) kind = if same_kind kind goal.kind then Some number else first_number (number + 1) goals kind

abbrev pub number_or : ℕ → Option ℕ → ℕ
number_or other None = other
number_or other (Some number) = number

-- the parent that a governor is, where there are so many goals
abbrev pub governor_id : ℕ → Numbers → Option GoalKind → Option GoalId
governor_id count numbers None = None
governor_id count numbers (Some governor) = Some record { 0 = number_or count (found_in numbers governor) }
