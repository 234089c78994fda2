-- Kept tests as tests of a suite: what is kept of a test, written without assertions and on any lines.
use Rattle.std.specs.Prelude.{◌≡◌, ℕ, Bool, true, nat_lt, IsTrue, List, [], ◌∷◌, length, take, Option, Some, None}
use Rattle.std.specs.Option.{option_map}
use Rattle.pyn_base.specs.declared.class.ClassId.{ClassId}
use Rattle.pyn_base.specs.declared.class.ClassId.TheVariants.{Built, Own}
use Rattle.py_syntax.specs.declared.module.Module.{Module}
use Rattle.py_plain.specs.Program.{Program, program_of}
use Rattle.report_model.specs.declared.lines.TestLine.TheVariants.{Passes}
use Rattle.suite_model.specs.declared.suite.TestCase.{TestCase}
use Rattle.suite_model.specs.declared.test.Step.{Step}
use Rattle.suite_model.specs.declared.test.Test.{Test}
use Rattle.suite_model.specs.declared.test.TestEnd.{TestEnd}
use Rattle.suite_model.specs.declared.test.TestEnd.TheVariants as test_end
use Rattle.suite_model.specs.Kept.{kept_of}
use Rattle.suite_runs.specs.FileRun.{TestRun}

-- the steps that are kept
abbrev pub kept_steps : Module → ℕ → Test → List Step
kept_steps m limit test = take (length (kept_of m limit test).used) test.steps

-- the class of the exception that ends what is kept, if one does
abbrev pub class_raised : TestEnd → Option ClassId
class_raised (test_end.Raised class) = Some class
class_raised _ = None

-- whether a class is there to be named: each built-in one is, and of the module's own those that it has
abbrev pub has_class : Program → ClassId → Bool
has_class program (Built class) = true
has_class program (Own k) = nat_lt k (length program.classes)

abbrev pub can_name : Program → Option ClassId → Bool
can_name program None = true
can_name program (Some class) = has_class program class

-- What is kept of a test, as a test of a suite. Where it ends with an exception, the last step has to raise its class;
-- nothing is asserted. The lines are any.
pub record IsCaseOf (m : Module) (limit : ℕ) (test : Test) (case : TestCase) : Type 0 where
  pub steps : case.test.steps ≡ kept_steps m limit test
  pub lines : length case.lines ≡ length case.test.steps
  pub raises : option_map (λ raises. raises.1) case.raises ≡ class_raised (kept_of m limit test).end
  pub named : IsTrue (can_name (program_of m) (class_raised (kept_of m limit test).end))
  pub asserts : case.asserts ≡ []

-- the one on given lines: of its `def`, of the `with` where there is one, and of the steps
abbrev pub kept_case : Module → ℕ → Test → ℕ → ℕ → List ℕ → TestCase
kept_case m limit test line block lines =
    record {
      line = line;
      test = record { steps = kept_steps m limit test };
      lines = lines;
      raises = option_map (λ class. (block, class)) (class_raised (kept_of m limit test).end);
      asserts = [];
    }

-- as many as there are tests, each of its test
abbrev pub AreCasesOf : Module → ℕ → List Test → List TestCase → Type 0
AreCasesOf m limit [] [] = Unit {0}
AreCasesOf m limit (test ∷ tests) (case ∷ cases) = IsCaseOf m limit test case × AreCasesOf m limit tests cases
AreCasesOf m limit _ _ = ⊥

-- a test that passes, with the trail of what is kept
abbrev pub passed : Module → ℕ → Test → TestRun
passed m limit test = record { outcome = Passes; trail = (kept_of m limit test).trail }
