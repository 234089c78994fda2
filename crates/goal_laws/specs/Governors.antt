-- What governs the points of a program, and whether a trail has reached it: a function that has begun, or an outcome that has come.
use Rattle.std.specs.List.{AllByRecursion, list_any}
use Rattle.std.specs.Prelude.{Bool, List, None, Option, Some, [], false, slice_get, true, ℕ, ◌++◌, ◌+◌, ◌==◌, ◌∷◌, ◌≡◌}
use Rattle.pyn_base.specs.declared.ids.NodeId.{NodeId}
use Rattle.py_plain.specs.Program.{Function, Program}
use Rattle.py_plain.specs.Tests.{Began, Decided, Event, Trail}
use Rattle.goal_model.specs.Goals.{body_points}
use Rattle.goal_model.specs.Taken.{begins, has_outcome}
use Rattle.goal_model.specs.declared.kind.GoalKind.{GoalKind}
use Rattle.goal_model.specs.declared.kind.GoalKind.TheVariants.{Branch, Entry, Reached}
use Rattle.goal_model.specs.declared.point.Point.{Point}
use Rattle.goal_model.specs.declared.point.Point.TheVariants.{Decision, Statement}

-- the points of functions, of which the first has this number
abbrev pub points_of_functions : ℕ → List Function → List Point
points_of_functions number [] = []
points_of_functions number (f ∷ fs) = body_points record { 0 = number } f.tree ++ points_of_functions (number + 1) fs

abbrev pub governor_of : Point → GoalKind
governor_of (Statement node line governor) = governor
governor_of (Decision node line governor) = governor

-- whether an event is the beginning of a statement, or the outcome of a decision
abbrev pub decides_at : NodeId → Event → Bool
decides_at node (Began began) = false
decides_at node (Decided decided judged outcome) = decided.0 == node.0

abbrev pub is_at : Point → Event → Bool
is_at (Statement node line governor) event = begins node event
is_at (Decision node line governor) event = decides_at node event

abbrev pub has_begun : Trail → Option Function → Bool
has_begun trail None = false
has_begun trail (Some f) = list_any (begins f.tree.node) trail

module _ (program : Program) where
  -- a line governs nothing
  abbrev pub is_reached : Trail → GoalKind → Bool
  is_reached trail (Entry id) = has_begun trail (slice_get program.functions id.0)
  is_reached trail (Branch node outcome) = list_any (has_outcome node outcome) trail
  is_reached trail (Reached node) = false

  -- what governs the points of an event is reached
  abbrev pub IsGoverned : Trail → Event → List Point → Type 0
  IsGoverned trail event points = AllByRecursion (λ point. is_at point event ≡ true → is_reached trail (governor_of point) ≡ true) points

  -- each event of a trail comes after what governs its points, where some events were before them all
  abbrev pub ComesAfter : List Point → Trail → Trail → Type 0
  ComesAfter points before [] = Unit {0}
  ComesAfter points before (event ∷ trail) = IsGoverned before event points × ComesAfter points (before ++ event ∷ []) trail
