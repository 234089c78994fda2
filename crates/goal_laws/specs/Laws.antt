-- What holds of the goals that runs take.
use Rattle.std.specs.List.{list_any}
use Rattle.std.specs.Prelude.{IsTrue, List, [], slice_get, ℕ, ◌==◌}
use Rattle.py_syntax.specs.declared.module.Module.{Module}
use Rattle.py_syntax.specs.declared.stmt.Stmt.{Stmt}
use Rattle.py_plain.specs.Import.{imported}
use Rattle.py_plain.specs.Program.{program_of}
use Rattle.py_plain.specs.Tests.{recorder, run_all}
use Rattle.py_sites.specs.Nodes.{IsNumbered}
use Rattle.goal_model.specs.Goals.{Goal, goals_of}
use Rattle.goal_model.specs.Parents.{is_ready, parent_in}
use Rattle.suite_model.specs.Kept.{gains_of, kept_from, kept_of, taken_from}
use Rattle.suite_model.specs.declared.test.Test.{Test}
use Rattle.goal_laws.specs.Governors.{ComesAfter, points_of_functions}
use Rattle.line_laws.specs.Laws.{IsReadFrom}
use Rattle.line_laws.specs.PlainLines.{has_plain_lines}

-- the parent of each goal that is taken is taken
abbrev pub HasParents : List Goal → List ℕ → Type 0
HasParents goals taken = (number : ℕ) → IsTrue (list_any (λ c. c == number) taken) → IsTrue (is_ready goals taken (parent_in goals (slice_get goals number)))

-- of a module whose nodes are numbered as they are read, and whose lines are those of the grammar
abbrev pub Holds : (Module → Type 0) → Type 0
Holds claim = (m : Module) → IsNumbered m → IsTrue (has_plain_lines (program_of m)) → claim m

-- Each statement that begins, and each decision, comes after what governs it: its function began, or that outcome came.
abbrev pub GovernorsComeFirst : Type 0
GovernorsComeFirst = (m : Module) → IsNumbered m → (limit : ℕ) (stmts : List Stmt)
    → ComesAfter (program_of m) (points_of_functions 0 (program_of m).functions) [] (run_all recorder (program_of m) limit stmts (imported (program_of m) [])).1.seen

-- The statements of a test, whatever they are, each with so many steps.
abbrev pub RunsTakeParents : Type 0
RunsTakeParents = Holds (λ m. (limit : ℕ) (stmts : List Stmt)
    → HasParents (goals_of m) (taken_from 0 (run_all recorder (program_of m) limit stmts (imported (program_of m) [])).1.seen (goals_of m)))

-- what is kept of statements
abbrev pub KeptTakesParents : Type 0
KeptTakesParents = Holds (λ m. (limit : ℕ) (stmts : List Stmt)
    → HasParents (goals_of m) (gains_of m (kept_from (program_of m) limit stmts (imported (program_of m) []))))

-- what is kept of a test
abbrev pub TestsTakeParents : Type 0
TestsTakeParents = Holds (λ m. (limit : ℕ) (test : Test) → HasParents (goals_of m) (gains_of m (kept_of m limit test)))

-- what is kept of a test of a module that was read
abbrev pub ReadTestsTakeParents : Type 0
ReadTestsTakeParents = (text : List ℕ) (m : Module) → IsReadFrom text m → (limit : ℕ) (test : Test) → HasParents (goals_of m) (gains_of m (kept_of m limit test))
