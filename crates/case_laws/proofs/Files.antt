-- Cases of kept tests, and files of them.
use Rattle.std.proofs.Common.{◌≡◌, ℕ, ◌+◌, true, cond, List, [], ◌∷◌, length, map, refl, sym, ap, ap₂, subst, ◌∙◌, Option, None, Some}
use Rattle.std.proofs.lemmas.Slice.Eq.{bytes_eq-Decides}
use Rattle.std.specs.List.{position_from, zip}
use Rattle.std.specs.Option.{option_map}
use Rattle.std.specs.Prelude.{bytes_eq, if◌then◌else◌, slice_get, take}
use Rattle.pyn_base.specs.declared.class.ClassId.{ClassId}
use Rattle.py_syntax.specs.declared.module.Module.{Module}
use Rattle.py_plain.specs.Import.{imported}
use Rattle.py_plain.specs.Program.{program_of}
use Rattle.py_plain.specs.Tests.{Trail}
use Rattle.goal_model.specs.Goals.{Goal, goals_of}
use Rattle.goal_model.specs.Taken.{is_taken}
use Rattle.suite_model.specs.declared.suite.Assert.{Assert}
use Rattle.suite_model.specs.declared.suite.TestCase.{TestCase}
use Rattle.suite_model.specs.declared.test.Step.{Step}
use Rattle.suite_model.specs.declared.test.Test.{Test}
use Rattle.suite_model.specs.Kept.{gains_of, kept_of}
use Rattle.suite_runs.specs.declared.answer.Answer.TheVariants.{NoReport, Yes}
use Rattle.suite_runs.specs.Checked.{answer_by, first_difference, first_fault}
use Rattle.suite_runs.specs.FileRun.{TestRun, run_case, runs, steps_from}
use Rattle.suite_runs.specs.Judged.{report_of}
use Rattle.suite_runs.specs.Verdicts.{outcomes, test_id}
use Rattle.case_laws.specs.Cases.{IsCaseOf, can_name, class_raised, kept_steps, passed}
use Rattle.case_laws.specs.Laws.{AbruptAlone, CasesOfKept, CasesOfThemselves, FileOfKept, FirstToGain, GainsAreTaken, KeptPasses, KeptTrail, OwnReport}
use Rattle.case_laws.proofs.Again.{kept_again, take_again}
use Rattle.case_laws.proofs.Gains.{is_in, taken_at}
use Rattle.case_laws.proofs.Passing.{kept_pass}

raised_again : (block : ℕ) (class : Option ClassId) → option_map (λ (raises : ℕ × ClassId). raises.1) (option_map (λ class. (block, class)) class) ≡ class
raised_again block None = refl
raised_again block (Some class) = refl

pub cases_of_kept : CasesOfKept
cases_of_kept m limit test line block lines fit named =
    record { steps = refl; lines = fit; raises = raised_again block (class_raised (kept_of m limit test).end); named = named; asserts = refl }

module _ (m : Module) (limit : ℕ) where
  abbrev test_of : List Step → Test
  test_of steps = record { steps = steps }

  -- what a case asks of a list of steps, as its own test
  record Whole (case : TestCase) (steps : List Step) : Type 0 where
    all : steps ≡ kept_steps m limit (test_of steps)
    raises : option_map (λ (raises : ℕ × ClassId). raises.1) case.raises ≡ class_raised (kept_of m limit (test_of steps)).end
    named : can_name (program_of m) (class_raised (kept_of m limit (test_of steps)).end) ≡ true

  whole : (test : Test) (case : TestCase) → IsCaseOf m limit test case → Whole case (kept_steps m limit test)
  whole test case is =
      let again = kept_again (program_of m) limit 0 test.steps (imported (program_of m) []) in
      let n = length (kept_of m limit test).used in
      record {
        all = sym (ap (λ (used : List ℕ). take (length used) (take n test.steps)) again.0 ∙ take_again n test.steps);
        raises = is.raises ∙ sym again.1;
        named = ap (can_name (program_of m)) again.1 ∙ is.named;
      }

pub themselves : CasesOfThemselves
themselves m limit test case is =
    let own = subst (Whole m limit case) (sym is.steps) (whole m limit test case is) in
    record { steps = own.all; lines = is.lines; raises = own.raises; named = own.named; asserts = is.asserts }

-- ---- a report that is its own

same_text : (text : List ℕ) → bytes_eq text text ≡ true
same_text text = (bytes_eq-Decides text text).1 refl

says_yes : (fault : Option ℕ) (report : List ℕ) → fault ≡ None → answer_by fault report report ≡ Yes
says_yes fault report none = ap (λ fault. answer_by fault report report) none ∙ ap (λ b. if b then Yes else NoReport (first_difference 1 report report)) (same_text report)

no_fault : (m : Module) (limit : ℕ) (tests : List Test) → first_fault (map (λ (r : TestRun). r.outcome) (map (passed m limit) tests)) ≡ None
no_fault m limit [] = refl
no_fault m limit (test ∷ tests) = no_fault m limit tests

module _ (alone : AbruptAlone Trail) where
  pub ran : (m : Module) (limit : ℕ) (test : Test) (case : TestCase) → IsCaseOf m limit test case → run_case m limit case ≡ passed m limit test
  ran m limit test case is =
      let program = program_of m in
      let run = λ (asserts : List Assert) (steps : List Step). runs program limit (steps_from program case.raises asserts 0 (zip steps case.lines)) (imported program []) in
      ap₂ run is.asserts is.steps
      ∙ kept_pass alone program limit case.raises 0 test.steps (imported program []) case.lines (is.lines ∙ ap (λ (steps : List Step). length steps) is.steps) is.raises is.named

  pub passes : KeptPasses
  passes m limit test case is = ap (λ (r : TestRun). r.outcome) (ran m limit test case is)

  pub trail : KeptTrail
  trail m limit test case is = ap (λ (r : TestRun). r.trail) (ran m limit test case is)

  pub gains : GainsAreTaken
  gains m limit test case is number goal at =
      ap (λ (r : TestRun). is_taken r.trail goal) (ran m limit test case is) ∙ taken_at (kept_of m limit test).trail number (goals_of m) goal at

  pub file : FileOfKept
  file m limit [] [] are = refl
  file m limit [] (case ∷ cases) are = absurd are
  file m limit (test ∷ tests) [] are = absurd are
  file m limit (test ∷ tests) (case ∷ cases) are = ap₂ (λ (r : TestRun) (rs : List TestRun). r ∷ rs) (ran m limit test case are.0) (file m limit tests cases are.1)

  first : (m : Module) (limit number : ℕ) (goal : Goal) → slice_get (goals_of m) number ≡ Some goal → (k : ℕ) (tests : List Test)
      → position_from (λ (r : TestRun). is_taken r.trail goal) k (map (passed m limit) tests) ≡ position_from (λ test. is_in (gains_of m (kept_of m limit test)) number) k tests
  first m limit number goal at k [] = refl
  first m limit number goal at k (test ∷ tests) =
      ap₂ (λ b rest. cond b (Some k) rest) (taken_at (kept_of m limit test).trail number (goals_of m) goal at) (first m limit number goal at (k + 1) tests)

  pub first_to_gain : FirstToGain
  first_to_gain m limit tests cases are number goal at =
      ap (λ (rs : List TestRun). option_map test_id (position_from (λ (r : TestRun). is_taken r.trail goal) 0 rs)) (file m limit tests cases are)
      ∙ ap (option_map test_id) (first m limit number goal at 0 tests)

  pub own_report : OwnReport
  own_report m limit cap tests suite are =
      says_yes (first_fault (outcomes m limit suite.cases)) (report_of m suite limit cap)
      (ap (λ (rs : List TestRun). first_fault (map (λ (r : TestRun). r.outcome) rs)) (file m limit tests suite.cases are) ∙ no_fault m limit tests)
