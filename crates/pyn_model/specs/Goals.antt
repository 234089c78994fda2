-- The goals of a module, and what takes them. (Statement coverage, as in "DynaMOSA", Panichella and others 2018.)
use Rattle.std.specs.Prelude.{ℕ, Bool, List, [], ◌∷◌, ◌++◌, ◌==◌, if◌then◌else◌, map, filter, Option, Some, None}
use Rattle.std.specs.List.{list_any, flat_map}
use Rattle.py_syntax.specs.declared.module.Func.{Func}
use Rattle.py_syntax.specs.declared.module.Module.{Module}
use Rattle.py_syntax.specs.Functions.{functions_of}
use Rattle.py_syntax.specs.declared.stmt.Stmt.{Stmt}
use Rattle.pyn_model.specs.declared.report.GoalKind.{GoalKind}
use Rattle.pyn_model.specs.declared.report.GoalKind.TheVariants.{Entry, Reached}

-- A goal: its kind, its line, and the nodes of which one has to begin.
pub record Goal : Type 0 where
  pub kind : GoalKind
  pub line : ℕ
  pub nodes : List ℕ

-- the lines on which a statement of a block begins, each once
abbrev pub lines_after : List ℕ → List Stmt → List ℕ
lines_after seen [] = []
lines_after seen (s ∷ rest) =
    (if list_any (λ line. line == s.line) seen then [] else s.line ∷ []) ++ lines_after (s.line ∷ seen) rest

-- a line is reached where a statement on it begins
abbrev pub line_goal : List Stmt → ℕ → Goal
line_goal body line = record { kind = Reached; line = line; nodes = map (λ (s : Stmt). s.node.0) (filter (λ (s : Stmt). s.line == line) body) }

-- the entry of a function, and then the lines of its body
abbrev pub goals_in : Func → List Goal
goals_in f =
    record { kind = Entry; line = f.line; nodes = f.node.0 ∷ [] }
    ∷ map (line_goal f.body) (lines_after [] f.body)

-- the goals of a module, function by function
abbrev pub goals_of : Module → List Goal
goals_of module' = flat_map goals_in (functions_of module')

-- a goal is taken where one of its nodes is among those that began
abbrev pub is_taken : List ℕ → Goal → Bool
is_taken began goal = list_any (λ node. list_any (λ b. b == node) began) goal.nodes
