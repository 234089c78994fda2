-- The report of a suite, and when a suite is minimal.
use Rattle.std.specs.Prelude.{◌≡◌, ℕ, ◌<◌, Bool, true, ◌&&◌, nat_lt, List, [], ◌∷◌, ◌++◌, map, Option}
use Rattle.std.specs.List.{position_from}
use Rattle.std.specs.Option.{option_map}
use Rattle.pyn_base.specs.declared.ids.TestId.{TestId}
use Rattle.py_syntax.specs.declared.module.Module.{Module}
use Rattle.pyn_model.specs.declared.report.GoalLine.{GoalLine}
use Rattle.pyn_model.specs.declared.report.Report.{Report}
use Rattle.pyn_model.specs.declared.test.Suite.{Suite}
use Rattle.pyn_model.specs.declared.test.TestCase.{TestCase}
use Rattle.pyn_model.specs.Goals.{Goal, goals_of, is_taken}
use Rattle.pyn_model.specs.FileRun.{TestRun, file_run}
use Rattle.pyn_model.specs.Report.{covered_count}

abbrev pub test_id : ℕ → TestId
test_id k = record { 0 = k }

-- a goal, with the first test that takes it
abbrev pub goal_line : List TestRun → Goal → GoalLine
goal_line ran goal =
    record { kind = goal.kind; line = goal.line; by = option_map test_id (position_from (λ (r : TestRun). is_taken r.trail goal) 0 ran) }

-- the goals of a module, as these tests cover them
abbrev pub goal_lines : Module → ℕ → List TestCase → List GoalLine
goal_lines module' steps cases = map (goal_line (file_run module' steps cases)) (goals_of module')

-- how many goals of a module these tests take
abbrev pub goals_taken : Module → ℕ → List TestCase → ℕ
goals_taken module' steps cases = covered_count (goal_lines module' steps cases)

-- No test can go: the suite without any one of them takes fewer goals.
abbrev pub IsMinimal : Module → ℕ → List TestCase → Type 0
IsMinimal module' steps cases =
    (before : List TestCase) → (case : TestCase) → (after : List TestCase) → cases ≡ before ++ (case ∷ after)
    → goals_taken module' steps (before ++ after) < goals_taken module' steps cases

-- the same as a test, which looks at each of these after those that were looked at
abbrev pub none_can_go : (List TestCase → ℕ) → List TestCase → List TestCase → Bool
none_can_go taken before [] = true
none_can_go taken before (case ∷ after) =
    nat_lt (taken (before ++ after)) (taken (before ++ (case ∷ after))) && none_can_go taken (before ++ (case ∷ [])) after

-- the report of a suite of a module, with so many steps for each statement and so many mutants listed at most
abbrev pub judged : Module → Suite → ℕ → ℕ → Report
judged module' suite steps cap =
    record {
      «module» = suite.module;
      steps = steps;
      cap = cap;
      tests = map (λ (r : TestRun). r.outcome) (file_run module' steps suite.cases);
      goals = goal_lines module' steps suite.cases;
      minimal = none_can_go (goals_taken module' steps) [] suite.cases;
    }
