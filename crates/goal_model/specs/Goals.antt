-- The goals of a module, function by function: the entry, and then those of its body in the order of reading, the goal of a line before
-- the branches of the same node, true before false. A goal's number is its place from 0.
use Rattle.std.specs.Prelude.{ℕ, ◌+◌, Bool, true, false, List, [], ◌∷◌, ◌++◌, ◌==◌, if◌then◌else◌, map, Option, None, Some}
use Rattle.std.specs.List.{list_any, flat_map}
use Rattle.pyn_base.specs.declared.ids.FuncId.{FuncId}
use Rattle.pyn_base.specs.declared.ids.NodeId.{NodeId}
use Rattle.py_syntax.specs.declared.module.Func.{Func}
use Rattle.py_syntax.specs.declared.module.Module.{Module}
use Rattle.py_plain.specs.Program.{Function, functions_from}
use Rattle.goal_model.specs.declared.kind.GoalKind.{GoalKind}
use Rattle.goal_model.specs.declared.kind.GoalKind.TheVariants.{Entry, Branch, Reached}
use Rattle.goal_model.specs.Points.{block, points}
use Rattle.goal_model.specs.declared.point.Point.{Point}
use Rattle.goal_model.specs.declared.point.Point.TheVariants.{Statement, Decision}

-- A goal: what is to be reached, its line, the nodes of which one has to begin for an entry or a line, and the goal that governs it.
pub record Goal : Type 0 where
  pub kind : GoalKind
  pub line : ℕ
  pub nodes : List NodeId
  pub parent : Option GoalKind

-- the statements that begin on a line
abbrev pub starts_on : ℕ → Point → List NodeId
starts_on line (Statement node l governor) = if l == line then node ∷ [] else []
starts_on line (Decision node l governor) = []

abbrev pub branch : NodeId → ℕ → GoalKind → Bool → Goal
branch node line governor outcome = record { kind = Branch node outcome; line = line; nodes = []; parent = Some governor }

-- the goals of points, where these lines have their goal already: each line has one, at its first statement
abbrev pub goals_from : List ℕ → List Point → List Goal
goals_from lines [] = []
goals_from lines (Statement node line governor ∷ more) =
    if list_any (λ l. l == line) lines then goals_from lines more
    else record { kind = Reached node; line = line; nodes = node ∷ flat_map (starts_on line) more; parent = Some governor } ∷ goals_from (line ∷ lines) more
goals_from lines (Decision node line governor ∷ more) = branch node line governor true ∷ branch node line governor false ∷ goals_from lines more

abbrev pub entry : FuncId → Func → Goal
entry id f = record { kind = Entry id; line = f.line; nodes = f.node ∷ []; parent = None }

-- the points of a function's body
abbrev pub body_points : FuncId → Func → List Point
body_points id f = block (map points f.body) (Entry id)

abbrev pub goals_in : FuncId → Func → List Goal
goals_in id f = entry id f ∷ goals_from [] (body_points id f)

-- the goals of functions, of which the first has this number
abbrev pub goals_of_functions : ℕ → List Function → List Goal
goals_of_functions number [] = []
goals_of_functions number (f ∷ fs) = goals_in record { 0 = number } f.tree ++ goals_of_functions (number + 1) fs

abbrev pub goals_of : Module → List Goal
goals_of module' = goals_of_functions 0 (functions_from 0 module'.items)
