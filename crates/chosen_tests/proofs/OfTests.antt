-- The first pass over tests of a module.
use Rattle.std.proofs.Common.{◌≡◌, ℕ, ◌+◌, ◌<◌, Bool, true, false, ◌&&◌, List, [], ◌∷◌, ◌++◌, refl, ap, ap₂, sym, ◌∙◌, subst, length, get_or, map}
use Rattle.py_syntax.specs.declared.module.Module.{Module}
use Rattle.py_plain.specs.Program.{Program, program_of}
use Rattle.suite_model.specs.declared.test.Test.{Test}
use Rattle.suite_model.specs.declared.test.TestEnd.{TestEnd}
use Rattle.suite_model.specs.Kept.{gains_of, kept_of}
use Rattle.case_laws.specs.Cases.{can_name, class_raised}
use Rattle.chosen_tests.specs.declared.chosen.Chosen.{Chosen}
use Rattle.chosen_tests.specs.Chosen.{can_be_written, chosen, chosen_as, chosen_from, gaining, gains, gains_kept, staying}
use Rattle.chosen_tests.specs.Counting.{Rose, lacks}
use Rattle.chosen_tests.proofs.FirstPass.{Passed, one_left, one_taken}
use Rattle.chosen_tests.proofs.SecondPass.{stay_made}

module _ (m : Module) (limit : ℕ) where
  abbrev pub PassedTests : List Test → ℕ → List Chosen → List ℕ → Type 0
  PassedTests tests i done counts = Passed (gains m limit) (can_be_written m limit) gains_kept (chosen_as m limit) (λ test. refl) tests i done counts

  -- what a run of a test tells
  pub record Tells (test : Test) (program : Program) (used : List ℕ) (end : TestEnd) (gained : List ℕ) : Type 0 where
    pub tables : program ≡ program_of m
    pub steps : used ≡ (kept_of m limit test).used
    pub ends : end ≡ (kept_of m limit test).end
    pub gains : gained ≡ gains_of m (kept_of m limit test)

  wanted_is : (test : Test) (program : Program) (used : List ℕ) (end : TestEnd) (gained counts : List ℕ) → Tells test program used end gained
      → (can_be_written m limit test && lacks counts (gains m limit test)) ≡ (can_name program (class_raised end) && lacks counts gained)
  wanted_is test program used end gained counts tells =
      ap₂ (λ p e. can_name p (class_raised e) && lacks counts (gains m limit test)) (sym tells.tables) (sym tells.ends)
      ∙ ap (λ g. can_name program (class_raised end) && lacks counts g) (sym tells.gains)

  made_is : (test : Test) (program : Program) (used : List ℕ) (end : TestEnd) (gained : List ℕ) → Tells test program used end gained → chosen_from test used end gained ≡ chosen_as m limit test
  made_is test program used end gained tells =
      ap₂ (λ u e. chosen_from test u e gained) tells.steps tells.ends ∙ ap (chosen_from test (kept_of m limit test).used (kept_of m limit test).end) tells.gains

  pub test_taken : (tests : List Test) (i : ℕ) (test : Test) (done new : List Chosen) (counts raised : List ℕ) (x : Chosen) (program : Program) (used : List ℕ) (end : TestEnd) (gained : List ℕ) (wanted : Bool)
      → i < length tests → test ≡ get_or tests i test → Tells test program used end gained → wanted ≡ (can_name program (class_raised end) && lacks counts gained) → wanted ≡ true
      → Rose counts raised gained → x ≡ chosen_from test used end gained → new ≡ done ++ x ∷ [] → PassedTests tests i done counts → PassedTests tests (i + 1) new raised
  test_taken tests i test done new counts raised x program used end gained wanted less at tells is so rose made pushed p =
      subst (λ (all : List Chosen). PassedTests tests (i + 1) all raised) (sym (pushed ∙ ap (λ y. done ++ y ∷ []) (made ∙ made_is test program used end gained tells)))
      (one_taken (gains m limit) (can_be_written m limit) gains_kept (chosen_as m limit) (λ test. refl) tests i test done counts raised less at
      (wanted_is test program used end gained counts tells ∙ sym is ∙ so) (subst (λ (g : List ℕ). Rose counts raised g) tells.gains rose) p)

  pub test_left : (tests : List Test) (i : ℕ) (test : Test) (done : List Chosen) (counts : List ℕ) (program : Program) (used : List ℕ) (end : TestEnd) (gained : List ℕ) (wanted : Bool)
      → i < length tests → test ≡ get_or tests i test → Tells test program used end gained → wanted ≡ (can_name program (class_raised end) && lacks counts gained) → wanted ≡ false
      → PassedTests tests i done counts → PassedTests tests (i + 1) done counts
  test_left tests i test done counts program used end gained wanted less at tells is so p =
      one_left (gains m limit) (can_be_written m limit) gains_kept (chosen_as m limit) (λ test. refl) tests i test done counts less at (wanted_is test program used end gained counts tells ∙ sym is ∙ so) p

  pub tests_chosen : (tests : List Test) (found all : List Chosen) → found ≡ map (chosen_as m limit) (gaining (gains m limit) (can_be_written m limit) [] tests) → all ≡ staying gains_kept [] found
      → all ≡ map (chosen_as m limit) (chosen m limit tests)
  tests_chosen tests found all first second =
      second ∙ ap (staying gains_kept []) first ∙ stay_made (gains m limit) gains_kept (chosen_as m limit) (λ test. refl) [] (gaining (gains m limit) (can_be_written m limit) [] tests)
