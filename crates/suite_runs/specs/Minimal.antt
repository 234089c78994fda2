-- Minimal suites: where any one test, or any one assertion, is left out, fewer goals are taken or fewer mutants are killed.
use Rattle.std.specs.Prelude.{ℕ, Bool, true, false, ◌||◌, nat_lt, count_by, is_some, List, [], ◌∷◌, ◌++◌, map}
use Rattle.std.specs.List.{list_all, position_from}
use Rattle.std.specs.Option.{option_map}
use Rattle.py_syntax.specs.declared.module.Module.{Module}
use Rattle.report_model.specs.declared.lines.GoalLine.{GoalLine}
use Rattle.report_model.specs.declared.lines.MutantLine.{MutantLine}
use Rattle.report_model.specs.declared.lines.ShownKind.{ShownKind}
use Rattle.report_model.specs.declared.lines.ShownKind.TheVariants as shown
use Rattle.report_model.specs.ReportText.{is_killed}
use Rattle.goal_model.specs.declared.kind.GoalKind.{GoalKind}
use Rattle.goal_model.specs.declared.kind.GoalKind.TheVariants.{Entry, Branch, Reached}
use Rattle.goal_model.specs.Goals.{Goal, goals_of}
use Rattle.goal_model.specs.Taken.{is_taken}
use Rattle.suite_model.specs.declared.suite.TestCase.{TestCase}
use Rattle.suite_runs.specs.FileRun.{TestRun, file_run}
use Rattle.suite_runs.specs.Verdicts.{test_id, mutant_lines}

-- ---- goals, each with the first test that takes it

abbrev pub shown_kind : GoalKind → ShownKind
shown_kind (Entry f) = shown.Entry
shown_kind (Branch node true) = shown.True
shown_kind (Branch node false) = shown.False
shown_kind (Reached node) = shown.Reached

abbrev pub goal_line : List TestRun → Goal → GoalLine
goal_line ran goal =
    record { kind = shown_kind goal.kind; line = goal.line; by = option_map test_id (position_from (λ (r : TestRun). is_taken r.trail goal) 0 ran) }

abbrev pub goal_lines : Module → ℕ → List TestCase → List GoalLine
goal_lines m limit cases = map (goal_line (file_run m limit cases)) (goals_of m)

abbrev pub goals_taken : Module → ℕ → List TestCase → ℕ
goals_taken m limit cases = count_by (λ (goal : GoalLine). is_some goal.by) (goal_lines m limit cases)

abbrev pub mutants_killed : Module → ℕ → ℕ → List TestCase → ℕ
mutants_killed m limit cap cases = count_by (λ (mutant : MutantLine). is_killed mutant.verdict) (mutant_lines m limit cap cases)

-- ---- what is left where one thing is left out

-- a list without one of its elements, in each way
abbrev pub without_one : {A : Type 0} → List A → List (List A)
without_one [] = []
without_one (x ∷ xs) = xs ∷ map (λ rest. x ∷ rest) (without_one xs)

-- a list with one of its elements changed, in each way
abbrev pub with_one : {A : Type 0} → (A → List A) → List A → List (List A)
with_one change [] = []
with_one change (x ∷ xs) = map (λ y. y ∷ xs) (change x) ++ map (λ rest. x ∷ rest) (with_one change xs)

abbrev pub without_assertion : TestCase → List TestCase
without_assertion case = map (λ asserts. record case { asserts = asserts }) (without_one case.asserts)

abbrev pub smaller : List TestCase → List (List TestCase)
smaller cases = without_one cases ++ with_one without_assertion cases

-- whether these tests lose a goal or a kill of those
abbrev pub loses : Module → ℕ → ℕ → List TestCase → List TestCase → Bool
loses m limit cap cases fewer = nat_lt (goals_taken m limit fewer) (goals_taken m limit cases) || nat_lt (mutants_killed m limit cap fewer) (mutants_killed m limit cap cases)

abbrev pub is_minimal : Module → ℕ → ℕ → List TestCase → Bool
is_minimal m limit cap cases = list_all (loses m limit cap cases) (smaller cases)
