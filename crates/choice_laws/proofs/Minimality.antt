-- A suite of the chosen tests is minimal: without one of them a goal is taken no more.
use Rattle.std.proofs.Common.{◌≡◌, ◌<◌, ◌+◌, ◌⊎◌, ℕ, suc, Bool, true, false, List, [], ◌∷◌, ◌++◌, map, refl, ap, ap₂, sym, ◌∙◌, subst, inl, inr, arith, append-nil, Some}
use Rattle.std.proofs.lemmas.Bool.{and_from, eqb-true, false≢true, lt-ltb, or_cases, or_left, or_right}
use Rattle.std.proofs.lemmas.List.Folds.{list_all-map, list_any-append}
use Rattle.std.specs.List.{flat_map, list_all, list_any}
use Rattle.std.specs.Prelude.{◌==◌, count_by, if◌then◌else◌, is_some, nat_lt, slice_get}
use Rattle.py_syntax.specs.declared.module.Module.{Module}
use Rattle.py_plain.specs.Tests.{Trail}
use Rattle.report_model.specs.declared.lines.GoalLine.{GoalLine}
use Rattle.goal_model.specs.Goals.{Goal, goals_of}
use Rattle.goal_model.specs.Taken.{is_taken}
use Rattle.suite_model.specs.declared.suite.Assert.{Assert}
use Rattle.suite_model.specs.declared.suite.TestCase.{TestCase}
use Rattle.suite_model.specs.declared.test.Test.{Test}
use Rattle.suite_model.specs.Kept.{kept_of, taken_from}
use Rattle.suite_runs.specs.FileRun.{file_run}
use Rattle.suite_runs.specs.Minimal.{goal_line, goals_taken, loses, mutants_killed, with_one, without_assertion, without_one}
use Rattle.suite_runs.specs.Verdicts.{test_id}
use Rattle.case_laws.specs.Cases.{AreCasesOf}
use Rattle.case_laws.specs.Laws.{FirstToGain}
use Rattle.chosen_tests.specs.Chosen.{can_be_written, chosen, gains, has_new, holds}
use Rattle.choice_laws.specs.Laws.{ChosenIsMinimal}
use Rattle.choice_laws.proofs.Choosing.{each_needed, gained, gained-holds}
use Rattle.choice_laws.proofs.Counts.{count-lt, count-map, is_some-position}
use Rattle.choice_laws.proofs.Covered.{one_new, or_assoc, or_more}

-- ---- a number among the gains is that of a goal

one_of : (b : Bool) (k n : ℕ) (rest : List ℕ) → holds (if b then k ∷ rest else rest) n ≡ true → (k ≡ n) ⊎ (holds rest n ≡ true)
one_of true k n rest is = elim (or_cases (k == n) (holds rest n) is) [ inl same ↦ inl (eqb-true k n same) | inr later ↦ inr later ]
one_of false k n rest is = inr is

goal_from : (trail : Trail) (k n : ℕ) (goals : List Goal) → holds (taken_from k trail goals) n ≡ true → (i : ℕ) × (goal : Goal) × (k + i ≡ n) × (slice_get goals i ≡ Some goal)
goal_from trail k n [] is = absurd (false≢true is)
goal_from trail k n (goal ∷ goals) is =
    elim (one_of (is_taken trail goal) k n (taken_from (k + 1) trail goals) is) [
      | inl same ↦ (0, goal, omega (arith, same), refl)
      | inr later ↦ (let found = goal_from trail (k + 1) n goals later in (suc found.0, found.1, omega (arith, found.2), found.3))
    ]

goal_there : (trail : Trail) (n : ℕ) (goals : List Goal) → holds (taken_from 0 trail goals) n ≡ true → (goal : Goal) × (slice_get goals n ≡ Some goal)
goal_there trail n goals is =
    let found = goal_from trail 0 n goals is in
    let place : found.0 ≡ n = omega (arith, found.2) in
    (found.1, subst (λ k. slice_get goals k ≡ Some found.1) place found.3)

module _ (m : Module) (limit : ℕ) where
  -- ---- nothing is asserted, so that only a test can be left out

  none_asserted : (tests : List Test) (cases : List TestCase) → AreCasesOf m limit tests cases → with_one without_assertion cases ≡ []
  none_asserted [] [] are = refl
  none_asserted [] (case ∷ cases) are = absurd are
  none_asserted (test ∷ tests) [] are = absurd are
  none_asserted (test ∷ tests) (case ∷ cases) are =
      ap₂ (λ (all : List Assert) more. map (λ y. y ∷ cases) (map (λ asserts. record case { asserts = asserts }) (without_one all)) ++ map (λ rest. case ∷ rest) more)
      are.0.asserts (none_asserted tests cases are.1)

  -- what is left are cases of the tests that are left
  abbrev Left : List Test → (List TestCase → Bool) → Type 0
  Left tests p = (front : List Test) (test : Test) (back : List Test) (fewer : List TestCase) → tests ≡ front ++ test ∷ back → AreCasesOf m limit (front ++ back) fewer → p fewer ≡ true

  each_left : (tests : List Test) (cases : List TestCase) (p : List TestCase → Bool) → AreCasesOf m limit tests cases → Left tests p → list_all p (without_one cases) ≡ true
  each_left [] [] p are h = refl
  each_left [] (case ∷ cases) p are h = absurd are
  each_left (test ∷ tests) [] p are h = absurd are
  each_left (test ∷ tests) (case ∷ cases) p are h =
      and_from (p cases) (list_all p (map (λ rest. case ∷ rest) (without_one cases)))
      (h [] test tests cases refl are.1)
      (list_all-map p (λ rest. case ∷ rest) (without_one cases) ∙ each_left tests cases (λ rest. p (case ∷ rest)) are.1
      (λ front other back fewer is those. h (test ∷ front) other back (case ∷ fewer) (ap (λ us. test ∷ us) is) (are.0, those)))

  -- ---- a suite without one of its tests

  abbrev takes_goal : List TestCase → Goal → Bool
  takes_goal cases goal = is_some (goal_line (file_run m limit cases) goal).by

  gained_more : (n : ℕ) (front : List Test) (test : Test) (back : List Test) → gained (gains m limit) n (front ++ back) ≡ true → gained (gains m limit) n (front ++ test ∷ back) ≡ true
  gained_more n front test back h =
      let has = λ (t : Test). holds (gains m limit t) n in
      list_any-append has front (test ∷ back)
      ∙ sym (or_assoc (list_any has front) (has test) (list_any has back))
      ∙ or_more (list_any has front) (has test) (list_any has back) (sym (list_any-append has front back) ∙ h)

  gained_here : (n : ℕ) (front : List Test) (test : Test) (back : List Test) → holds (gains m limit test) n ≡ true → gained (gains m limit) n (front ++ test ∷ back) ≡ true
  gained_here n front test back h =
      let has = λ (t : Test). holds (gains m limit t) n in
      list_any-append has front (test ∷ back) ∙ or_right (list_any has front) (list_any has (test ∷ back)) (or_left (has test) (list_any has back) h)

  module _ (first : FirstToGain) where
    takes-gained : (tests : List Test) (cases : List TestCase) → AreCasesOf m limit tests cases → (n : ℕ) (goal : Goal) → slice_get (goals_of m) n ≡ Some goal
        → takes_goal cases goal ≡ gained (gains m limit) n tests
    takes-gained tests cases are n goal at = ap is_some (first m limit tests cases are n goal at) ∙ is_some-position test_id (λ (t : Test). holds (gains m limit t) n) 0 tests

    fewer_taken : (front : List Test) (test : Test) (back : List Test) (cases fewer : List TestCase) → AreCasesOf m limit (front ++ test ∷ back) cases → AreCasesOf m limit (front ++ back) fewer
        → has_new (flat_map (gains m limit) (front ++ back)) (gains m limit test) ≡ true → goals_taken m limit fewer < goals_taken m limit cases
    fewer_taken front test back cases fewer are those needed =
        let new = one_new (flat_map (gains m limit) (front ++ back)) (gains m limit test) needed in
        let there = goal_there (kept_of m limit test).trail new.0 (goals_of m) new.1 in
        let less : count_by (takes_goal fewer) (goals_of m) < count_by (takes_goal cases) (goals_of m) =
        count-lt (takes_goal fewer) (takes_goal cases) (goals_of m)
        (λ n goal at is. takes-gained (front ++ test ∷ back) cases are n goal at ∙ gained_more n front test back (sym (takes-gained (front ++ back) fewer those n goal at) ∙ is))
        new.0 there.0 there.1
        (takes-gained (front ++ back) fewer those new.0 there.0 there.1 ∙ gained-holds (gains m limit) new.0 (front ++ back) ∙ new.2)
        (takes-gained (front ++ test ∷ back) cases are new.0 there.0 there.1 ∙ gained_here new.0 front test back new.1) in
        let taken = λ (of : List TestCase). count-map (λ (goal : GoalLine). is_some goal.by) (goal_line (file_run m limit of)) (goals_of m) in
        omega (arith, less, taken fewer, taken cases)

pub minimal : FirstToGain → ChosenIsMinimal
minimal first m limit cap tests cases are =
    let all = chosen m limit tests in
    ap (λ changed. list_all (loses m limit cap cases) (without_one cases ++ changed)) (none_asserted m limit all cases are)
    ∙ ap (list_all (loses m limit cap cases)) (append-nil (without_one cases))
    ∙ each_left m limit all cases (loses m limit cap cases) are (λ front test back fewer is those.
    or_left (nat_lt (goals_taken m limit fewer) (goals_taken m limit cases)) (nat_lt (mutants_killed m limit cap fewer) (mutants_killed m limit cap cases))
    (lt-ltb (goals_taken m limit fewer) (goals_taken m limit cases)
    (fewer_taken m limit first front test back cases fewer (subst (λ ts. AreCasesOf m limit ts cases) is are) those
    (each_needed (gains m limit) (can_be_written m limit) tests front test back is))))
