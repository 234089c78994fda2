-- The cases of what is kept of the chosen tests.
use Rattle.std.proofs.Common.{◌≡◌, ℕ, true, List, [], ◌∷◌, length, map, replicate}
use Rattle.std.proofs.lemmas.Bool.{and_parts}
use Rattle.std.proofs.lemmas.List.{length-replicate}
use Rattle.std.specs.List.{list_all}
use Rattle.py_syntax.specs.declared.module.Module.{Module}
use Rattle.suite_model.specs.declared.test.Test.{Test}
use Rattle.case_laws.specs.Cases.{AreCasesOf, kept_steps}
use Rattle.case_laws.specs.Laws.{CasesOfKept}
use Rattle.chosen_tests.specs.Chosen.{can_be_written, chosen, chosen_as, gains}
use Rattle.choice_laws.specs.Cases.{cases_on}
use Rattle.choice_laws.specs.Laws.{ChosenAreTheirOwn}
use Rattle.choice_laws.proofs.Choosing.{each_may}

module _ (cases : CasesOfKept) (m : Module) (limit line : ℕ) where
  of_kept : (tests : List Test) → list_all (can_be_written m limit) tests ≡ true → AreCasesOf m limit tests (cases_on line (map (chosen_as m limit) tests))
  of_kept [] all = tt
  of_kept (test ∷ tests) all =
      let parts = and_parts (can_be_written m limit test) (list_all (can_be_written m limit) tests) all in
      let steps = length (kept_steps m limit test) in
      (cases m limit test line line (replicate steps line) (length-replicate steps line) parts.0, of_kept tests parts.1)

pub own : CasesOfKept → ChosenAreTheirOwn
own cases m limit tests line = of_kept cases m limit line (chosen m limit tests) (each_may (gains m limit) (can_be_written m limit) tests)
