-- Worked examples: verdicts from how tests end, what is left of a suite, and the report of a suite without tests.
use Rattle.std.specs.Prelude.{◌≡◌, ℕ, true, false, List, [], ◌∷◌, map, Option, None, Some, codes}
use Rattle.pyn_base.specs.declared.class.BuiltClass.TheVariants.{ValueError}
use Rattle.pyn_base.specs.declared.class.ClassId.{ClassId}
use Rattle.pyn_base.specs.declared.class.ClassId.TheVariants.{Built}
use Rattle.pyn_base.specs.declared.construct.Construct.TheVariants.{CallDepth}
use Rattle.py_syntax.specs.declared.module.Item.TheVariants as item
use Rattle.py_syntax.specs.declared.module.Module.{Module}
use Rattle.py_plain.specs.Program.{Program, program_of}
use Rattle.report_model.specs.declared.lines.ShownKind.TheVariants as kind
use Rattle.report_model.specs.declared.lines.TestLine.TheVariants.{Passes, Fails, Stopped}
use Rattle.report_model.specs.declared.mutant.Verdict.TheVariants.{Killed, Survived, Undecided}
use Rattle.report_model.specs.declared.reason.Cause.TheVariants as cause
use Rattle.report_model.specs.declared.reason.ShownReason.TheVariants as reason
use Rattle.suite_model.specs.declared.suite.Assert.{Assert}
use Rattle.suite_model.specs.declared.suite.Subject.TheVariants.{Whole}
use Rattle.suite_model.specs.declared.suite.TestCase.{TestCase}
use Rattle.suite_model.specs.declared.suite.Wants.TheVariants.{Is}
use Rattle.suite_model.specs.declared.test.Primitive.TheVariants as prim
use Rattle.suite_model.specs.declared.test.Step.{Step}
use Rattle.suite_model.specs.declared.test.Step.TheVariants as step
use Rattle.suite_model.specs.Assertions.{assertion}
use Rattle.suite_model.specs.Statements.{right_of, statement_of}
use Rattle.suite_runs.specs.declared.answer.Answer.TheVariants.{Yes, NoReport}
use Rattle.suite_runs.specs.Checked.{first_fault, report_answer}
use Rattle.suite_runs.specs.FileRun.{Does, Raises, Asserts, bare, steps_of_case}
use Rattle.suite_runs.specs.Judged.{judged}
use Rattle.suite_runs.specs.Minimal.{smaller}
use Rattle.suite_runs.specs.Verdicts.{test_id, verdict_of}

-- ---- a module with `def f(): ..` on line 1, whose body is empty, and tests of it

abbrev pub sample : Module
sample = record { items = item.Func record { node = record { 0 = 0 }; name = codes "f"; line = 1; params = []; returns = None; body = [] } ∷ []; future = false; nodes = 1 }

abbrev pub program : Program
program = program_of sample

abbrev pub none : Step
none = step.Prim prim.None

abbrev pub calls_f : Step
calls_f = step.Function record { 0 = 0 } []

-- the assertion `var_K is None` after step K, on a line
abbrev pub is_none : ℕ → ℕ → Assert
is_none k line = record { after = k; line = line; subject = Whole k; wants = Is prim.None }

abbrev pub case_of : List Step → List ℕ → Option (ℕ × ClassId) → List Assert → TestCase
case_of steps lines raises asserts = record { line = 5; test = record { steps = steps }; lines = lines; raises = raises; asserts = asserts }

-- ---- what stands in a test

-- two steps and an assertion after each
abbrev pub InOrder : Type 0
InOrder =
    steps_of_case program (case_of (none ∷ calls_f ∷ []) (6 ∷ 8 ∷ []) None (is_none 0 7 ∷ is_none 1 9 ∷ []))
    ≡ Does 6 (statement_of program 0 none) ∷ Asserts 7 (assertion program (is_none 0 7)) ∷ Does 8 (statement_of program 1 calls_f) ∷ Asserts 9 (assertion program (is_none 1 9)) ∷ []

-- a call that has to raise, which assigns nothing
abbrev pub InBlock : Type 0
InBlock =
    steps_of_case program (case_of (none ∷ calls_f ∷ []) (6 ∷ 8 ∷ []) (Some (7, Built ValueError)) [])
    ≡ Does 6 (statement_of program 0 none) ∷ Raises 7 (Built ValueError) 8 (bare (right_of program calls_f)) ∷ []

-- ---- verdicts

-- A test that fails kills, also after one that stopped. Where none fails, the first cause counts.
abbrev pub Verdicts : Type 0
Verdicts =
    map verdict_of
    ((Passes ∷ Stopped 8 cause.Steps ∷ Fails 12 reason.Assert ∷ Fails 16 reason.NotRaised ∷ []) ∷ (Passes ∷ Stopped 8 cause.Steps ∷ Stopped 9 (cause.Left CallDepth) ∷ []) ∷ (Passes ∷ Passes ∷ []) ∷ [] ∷ [])
    ≡ Killed (test_id 2) 12 reason.Assert ∷ Undecided cause.Steps ∷ Survived ∷ Survived ∷ []

-- ---- what is left where one thing is left out

abbrev pub plain : TestCase
plain = case_of (none ∷ []) (6 ∷ []) None []

abbrev pub asserting : List Assert → TestCase
asserting asserts = case_of (none ∷ []) (10 ∷ []) None asserts

-- two tests, the second with two assertions: either test, and either assertion
abbrev pub Smaller : Type 0
Smaller =
    smaller (plain ∷ asserting (is_none 0 11 ∷ is_none 0 12 ∷ []) ∷ [])
    ≡ (asserting (is_none 0 11 ∷ is_none 0 12 ∷ []) ∷ []) ∷ (plain ∷ [])
    ∷ (plain ∷ asserting (is_none 0 12 ∷ []) ∷ []) ∷ (plain ∷ asserting (is_none 0 11 ∷ []) ∷ []) ∷ []

-- ---- the report of a suite without tests: nothing is taken, and nothing could go

abbrev pub Empty : Type 0
Empty =
    judged sample record { «module» = codes "box"; cases = [] } 20000 500
    ≡ record { «module» = codes "box"; steps = 20000; cap = 500; tests = []; goals = record { kind = kind.Entry; line = 1; by = None } ∷ []; mutants = []; minimal = true }

-- ---- what a check says

-- The first test that doesn't pass counts, whatever the report is.
abbrev pub Faults : Type 0
Faults = map first_fault ((Passes ∷ Stopped 8 cause.Steps ∷ Fails 12 reason.Assert ∷ []) ∷ (Passes ∷ []) ∷ []) ≡ Some 8 ∷ None ∷ []

-- the same text; a line that differs; a missing line; a line too many; the last line feed missing
abbrev pub Answers : Type 0
Answers =
    map (report_answer (codes "a\nb\n")) (codes "a\nb\n" ∷ codes "a\nc\n" ∷ codes "a\n" ∷ codes "a\nb\nc\n" ∷ codes "a\nb" ∷ [])
    ≡ Yes ∷ NoReport 2 ∷ NoReport 2 ∷ NoReport 3 ∷ NoReport 2 ∷ []
