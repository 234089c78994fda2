-- What holds of kept tests where a suite runs them.
use Rattle.std.specs.Prelude.{◌≡◌, ℕ, ◌==◌, IsTrue, List, length, map, Option, Some, Err, slice_get}
use Rattle.std.specs.List.{list_any, position_from}
use Rattle.std.specs.Option.{option_map}
use Rattle.pyn_base.specs.declared.ids.NodeId.{NodeId}
use Rattle.py_syntax.specs.declared.expr.Expr.{Expr}
use Rattle.py_syntax.specs.declared.module.Module.{Module}
use Rattle.py_syntax.specs.declared.stmt.Annotation.{Annotation}
use Rattle.py_meaning.specs.Worlds.{World}
use Rattle.py_plain.specs.declared.run.Abrupt.{Abrupt}
use Rattle.py_plain.specs.declared.state.State.{State}
use Rattle.py_plain.specs.Program.{Program, program_of}
use Rattle.py_plain.specs.Runs.{Watcher}
use Rattle.py_plain.specs.Statements.{means}
use Rattle.report_model.specs.declared.lines.TestLine.TheVariants.{Passes}
use Rattle.goal_model.specs.Goals.{Goal, goals_of}
use Rattle.goal_model.specs.Taken.{is_taken}
use Rattle.suite_model.specs.declared.suite.Suite.{Suite}
use Rattle.suite_model.specs.declared.suite.TestCase.{TestCase}
use Rattle.suite_model.specs.declared.test.Test.{Test}
use Rattle.suite_model.specs.Kept.{gains_of, kept_of}
use Rattle.suite_runs.specs.declared.answer.Answer.TheVariants.{Yes}
use Rattle.suite_runs.specs.Checked.{checked}
use Rattle.suite_runs.specs.FileRun.{file_run, run_case}
use Rattle.suite_runs.specs.Judged.{report_of}
use Rattle.suite_runs.specs.Minimal.{goal_line}
use Rattle.suite_runs.specs.Verdicts.{test_id}
use Rattle.test_frames.specs.Laws.{assigns_name, stands_alone}
use Rattle.case_laws.specs.Cases.{AreCasesOf, IsCaseOf, can_name, class_raised, kept_case, kept_steps, passed}

module _ (W : Type 0) where
  -- An assignment to a name that ends abruptly does so in its right side, which ends in the same way and in the same state where it stands alone.
  abbrev pub AbruptAlone : Type 0
  AbruptAlone = (watcher : Watcher W) (program : Program) (node : NodeId) (line other : ℕ) (name : List ℕ) (annotation : Option Annotation) (e : Expr) (s : State World W) (why : Abrupt)
      → (means watcher program (assigns_name node line name annotation e) s).0 ≡ Err why
      → means watcher program (stands_alone node other e) s ≡ means watcher program (assigns_name node line name annotation e) s

-- There is such a case on any lines, as many as steps, where a class that is raised can be named.
abbrev pub CasesOfKept : Type 0
CasesOfKept = (m : Module) (limit : ℕ) (test : Test) (line block : ℕ) (lines : List ℕ) → length lines ≡ length (kept_steps m limit test)
    → IsTrue (can_name (program_of m) (class_raised (kept_of m limit test).end)) → IsCaseOf m limit test (kept_case m limit test line block lines)

abbrev pub OfCases : (Module → ℕ → Test → TestCase → Type 0) → Type 0
OfCases claim = (m : Module) (limit : ℕ) (test : Test) (case : TestCase) → IsCaseOf m limit test case → claim m limit test case

-- Nothing of such a case is cut where its own test is run.
abbrev pub CasesOfThemselves : Type 0
CasesOfThemselves = OfCases (λ m limit test case. IsCaseOf m limit case.test case)

abbrev pub KeptPasses : Type 0
KeptPasses = OfCases (λ m limit test case. (run_case m limit case).outcome ≡ Passes)

abbrev pub KeptTrail : Type 0
KeptTrail = OfCases (λ m limit test case. (run_case m limit case).trail ≡ (kept_of m limit test).trail)

-- The trail takes a goal exactly where its number is among the gains.
abbrev pub GainsAreTaken : Type 0
GainsAreTaken = OfCases (λ m limit test case. (number : ℕ) (goal : Goal) → slice_get (goals_of m) number ≡ Some goal
    → is_taken (run_case m limit case).trail goal ≡ list_any (λ c. c == number) (gains_of m (kept_of m limit test)))

abbrev pub OfFiles : (Module → ℕ → List Test → List TestCase → Type 0) → Type 0
OfFiles claim = (m : Module) (limit : ℕ) (tests : List Test) (cases : List TestCase) → AreCasesOf m limit tests cases → claim m limit tests cases

abbrev pub FileOfKept : Type 0
FileOfKept = OfFiles (λ m limit tests cases. file_run m limit cases ≡ map (passed m limit) tests)

-- the first test that takes a goal: the first one with the goal's number among its gains
abbrev pub FirstToGain : Type 0
FirstToGain = OfFiles (λ m limit tests cases. (number : ℕ) (goal : Goal) → slice_get (goals_of m) number ≡ Some goal
    → (goal_line (file_run m limit cases) goal).by ≡ option_map test_id (position_from (λ test. list_any (λ c. c == number) (gains_of m (kept_of m limit test))) 0 tests))

-- A check of the suite with its own report, of however many mutants, says yes.
abbrev pub OwnReport : Type 0
OwnReport = (m : Module) (limit cap : ℕ) (tests : List Test) (suite : Suite) → AreCasesOf m limit tests suite.cases → checked m suite limit cap (report_of m suite limit cap) ≡ Yes
