-- The goals that are next to be reached, by the parents of all goals.
use Rattle.std.specs.Prelude.{ℕ, ◌+◌, Bool, true, List, [], ◌∷◌, ◌++◌, ◌&&◌, ◌==◌, if◌then◌else◌, not, Option, None, Some}
use Rattle.std.specs.List.{list_any}
use Rattle.pyn_base.specs.declared.ids.GoalId.{GoalId}

-- by whether a goal of a number is covered
abbrev pub is_ready_by : (ℕ → Bool) → Option GoalId → Bool
is_ready_by covered None = true
is_ready_by covered (Some parent) = covered parent.0

abbrev pub is_target_by : (ℕ → Bool) → ℕ → Option GoalId → Bool
is_target_by covered number parent = not (covered number) && is_ready_by covered parent

abbrev pub targets_from_parents : (ℕ → Bool) → ℕ → List (Option GoalId) → List ℕ
targets_from_parents covered number [] = []
targets_from_parents covered number (parent ∷ parents) = (if is_target_by covered number parent then number ∷ [] else []) ++ targets_from_parents covered (number + 1) parents

abbrev pub is_in : List ℕ → ℕ → Bool
is_in covered number = list_any (λ c. c == number) covered

abbrev pub targets_by : List ℕ → ℕ → List (Option GoalId) → List ℕ
targets_by covered = targets_from_parents (is_in covered)
