-- What is known of the goals of every module.
use Rattle.std.specs.Prelude.{◌≡◌, ℕ, ◌<◌, ◌≤◌, Bool, true, false, List, Option, None, Some, replicate, slice_get}
use Rattle.py_syntax.specs.declared.module.Module.{Module}
use Rattle.py_frames.specs.Marked.{unmarked}
use Rattle.py_plain.specs.Tests.{Trail}
use Rattle.goal_model.specs.declared.kind.GoalKind.{GoalKind}
use Rattle.goal_model.specs.declared.kind.GoalKind.TheVariants.{Entry, Branch, Reached}
use Rattle.goal_model.specs.Goals.{Goal, goals_of}
use Rattle.goal_model.specs.Taken.{is_taken}
use Rattle.goal_graph.specs.Graph.{parent_number, nodes_of, is_marked, marked_by}

abbrev pub is_entry : GoalKind → Bool
is_entry (Entry f) = true
is_entry (Branch node outcome) = false
is_entry (Reached node) = false

-- a parent has a lower number than its goal
abbrev pub ParentsAreEarlier : Type 0
ParentsAreEarlier = (m : Module) (goal parent : ℕ) → parent_number (goals_of m) goal ≡ Some parent → parent < goal

-- a goal has a parent unless it is an entry
abbrev pub HasParent : Bool → Option ℕ → Type 0
HasParent true parent = parent ≡ None
HasParent false parent = (number : ℕ) × (parent ≡ Some number)

abbrev pub OthersHaveParents : Type 0
OthersHaveParents = (m : Module) (number : ℕ) (goal : Goal) → slice_get (goals_of m) number ≡ Some goal → HasParent (is_entry goal.kind) (parent_number (goals_of m) number)

-- The marks of a trail tell which goals it takes.
abbrev pub MarksTell : Type 0
MarksTell = (goals : List Goal) (number : ℕ) (goal : Goal) (trail : Trail) (nodes : ℕ) → slice_get goals number ≡ Some goal → nodes_of goals ≤ nodes
    → is_marked (marked_by trail (replicate nodes unmarked)) goal ≡ is_taken trail goal
