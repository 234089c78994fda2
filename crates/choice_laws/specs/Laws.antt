-- What holds of chosen tests, and of the suite that they make.
use Rattle.std.specs.Prelude.{◌≡◌, ℕ, Bool, true, ◌&&◌, List, ◌∷◌, ◌++◌, map}
use Rattle.std.specs.List.{flat_map, list_any}
use Rattle.py_syntax.specs.declared.module.Module.{Module}
use Rattle.suite_model.specs.declared.suite.TestCase.{TestCase}
use Rattle.suite_model.specs.declared.test.Test.{Test}
use Rattle.suite_runs.specs.Minimal.{is_minimal}
use Rattle.case_laws.specs.Cases.{AreCasesOf}
use Rattle.chosen_tests.specs.Chosen.{can_be_written, chosen, chosen_as, gains, has_new, holds}
use Rattle.choice_laws.specs.Cases.{cases_on}

-- whether what is kept of a test takes the goal of this number
abbrev pub gains_goal : Module → ℕ → ℕ → Test → Bool
gains_goal m limit number test = holds (gains m limit test) number

-- One of the chosen tests gains a goal exactly where one of all tests does that can be written.
abbrev pub NothingMissing : Type 0
NothingMissing = (m : Module) (limit : ℕ) (tests : List Test) (number : ℕ)
    → list_any (gains_goal m limit number) (chosen m limit tests) ≡ list_any (λ test. can_be_written m limit test && gains_goal m limit number test) tests

-- Wherever it stands among the chosen tests, each gains a goal that those before it and those after it don't gain.
abbrev pub EachNeeded : Type 0
EachNeeded = (m : Module) (limit : ℕ) (tests before : List Test) (test : Test) (after : List Test)
    → chosen m limit tests ≡ before ++ test ∷ after → has_new (flat_map (gains m limit) (before ++ after)) (gains m limit test) ≡ true

-- A suite of the chosen tests loses a goal without any one of them, whatever mutants are asked for.
abbrev pub ChosenIsMinimal : Type 0
ChosenIsMinimal = (m : Module) (limit cap : ℕ) (tests : List Test) (cases : List TestCase)
    → AreCasesOf m limit (chosen m limit tests) cases → is_minimal m limit cap cases ≡ true

-- There is such a suite: of what is kept of each.
abbrev pub ChosenAreTheirOwn : Type 0
ChosenAreTheirOwn = (m : Module) (limit : ℕ) (tests : List Test) (line : ℕ)
    → let all = chosen m limit tests in AreCasesOf m limit all (cases_on line (map (chosen_as m limit) all))
