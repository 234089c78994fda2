-- The run of a suite file: each test from the state after import, each statement and each assertion with so many steps.
use Rattle.std.specs.Prelude.{ℕ, ◌+◌, ◌==◌, if◌then◌else◌, List, [], ◌∷◌, ◌++◌, map, filter, zip, Option, Some, None}
use Rattle.pyn_base.specs.declared.class.BuiltClass.TheVariants.{AssertionError}
use Rattle.pyn_base.specs.declared.class.ClassId.{ClassId}
use Rattle.pyn_base.specs.declared.class.ClassId.TheVariants.{Built}
use Rattle.py_syntax.specs.declared.expr.Expr.{Expr}
use Rattle.py_syntax.specs.declared.module.Module.{Module}
use Rattle.py_syntax.specs.declared.stmt.Stmt.{Stmt}
use Rattle.py_syntax.specs.declared.stmt.StmtKind.TheVariants.{Bare}
use Rattle.py_meaning.specs.Values.{same_class}
use Rattle.py_meaning.specs.Worlds.{World}
use Rattle.py_plain.specs.declared.run.End.{End}
use Rattle.py_plain.specs.declared.run.End.TheVariants as end
use Rattle.py_plain.specs.declared.state.State.{State}
use Rattle.py_plain.specs.Classes.{derives}
use Rattle.py_plain.specs.Import.{imported}
use Rattle.py_plain.specs.Program.{Program, program_of}
use Rattle.py_plain.specs.Tests.{Trail, recorder, run_statement, run_assertion}
use Rattle.report_model.specs.declared.lines.TestLine.{TestLine}
use Rattle.report_model.specs.declared.lines.TestLine.TheVariants.{Passes, Fails, Stopped}
use Rattle.report_model.specs.declared.reason.Cause.TheVariants as cause
use Rattle.report_model.specs.declared.reason.ShownReason.TheVariants as reason
use Rattle.suite_model.specs.declared.suite.Assert.{Assert}
use Rattle.suite_model.specs.declared.suite.TestCase.{TestCase}
use Rattle.suite_model.specs.declared.test.Step.{Step}
use Rattle.suite_model.specs.Assertions.{assertion, bare_name}
use Rattle.suite_model.specs.Statements.{right_of, statement_of}

-- ---- what stands in a test, in order

pub data FileStep : Type 0 where
  -- a statement, with its line
  Does : ℕ → Stmt → FileStep
  -- a statement that has to raise: the line of its `with`, the class, and the statement with its line
  Raises : ℕ → ClassId → ℕ → Stmt → FileStep
  -- an assertion, with its line
  Asserts : ℕ → Stmt → FileStep

-- a statement that is an expression alone: in a `with` nothing is assigned
abbrev pub bare : Expr → Stmt
bare x = record { node = record { 0 = 0 }; line = 1; kind = Bare x }

module _ (program : Program) where
  -- the assertions after a step
  abbrev pub asserted_after : List Assert → ℕ → List FileStep
  asserted_after asserts k = map (λ (a : Assert). Asserts a.line (assertion program a)) (filter (λ (a : Assert). a.after == k) asserts)

  abbrev pub last_step : Option (ℕ × ClassId) → ℕ → Step × ℕ → FileStep
  last_step None k step = Does step.1 (statement_of program k step.0)
  last_step (Some raises) k step = Raises raises.0 raises.1 step.1 (bare (right_of program step.0))

  -- the steps of a test with their lines, from step k on, each with its assertions after it
  abbrev pub steps_from : Option (ℕ × ClassId) → List Assert → ℕ → List (Step × ℕ) → List FileStep
  steps_from raises asserts k [] = []
  steps_from raises asserts k (step ∷ []) = last_step raises k step ∷ asserted_after asserts k
  steps_from raises asserts k (step ∷ (next ∷ more)) =
      Does step.1 (statement_of program k step.0) ∷ (asserted_after asserts k ++ steps_from raises asserts (k + 1) (next ∷ more))

  abbrev pub steps_of_case : TestCase → List FileStep
  steps_of_case case = steps_from case.raises case.asserts 0 (zip case.test.steps case.lines)

-- ---- how a test ends

-- the outcome of a test, and the trail of all that began in it
pub record TestRun : Type 0 where
  pub outcome : TestLine
  pub trail : Trail

abbrev pub ended : TestLine → State World Trail → TestRun
ended outcome s = record { outcome = outcome; trail = s.seen }

abbrev pub Going : Type 0
Going = State World Trail → TestRun

module _ (program : Program) where
  -- a statement passes where it ends normally, and the test goes on after it
  abbrev pub after_statement : ℕ → End → State World Trail → Going → TestRun
  after_statement line end.Normal s goes = goes s
  after_statement line (end.Raised id class) s goes = ended (Fails line (reason.Raised (bare_name program class))) s
  after_statement line (end.Left construct) s goes = ended (Stopped line (cause.Left construct)) s
  after_statement line _ s goes = ended (Stopped line cause.Steps) s

  -- a statement that has to raise passes exactly where it raises the class, or one derived from it
  abbrev pub after_raising : ℕ → ClassId → ℕ → End → State World Trail → Going → TestRun
  after_raising block class line end.Normal s goes = ended (Fails block reason.NotRaised) s
  after_raising block class line (end.Raised id raised) s goes =
      if derives program raised class then goes s else ended (Fails line (reason.Raised (bare_name program raised))) s
  after_raising block class line other s goes = after_statement line other s goes

  -- an assertion that doesn't hold raises AssertionError
  abbrev pub after_assertion : ℕ → End → State World Trail → Going → TestRun
  after_assertion line (end.Raised id class) s goes =
      ended (Fails line (if same_class class (Built AssertionError) then reason.Assert else reason.Raised (bare_name program class))) s
  after_assertion line other s goes = after_statement line other s goes

  module _ (limit : ℕ) where
    abbrev pub does_step : FileStep → State World Trail → Going → TestRun
    does_step (Does line stmt) s goes = let r = run_statement recorder program limit stmt s in after_statement line r.0 r.1 goes
    does_step (Raises block class line stmt) s goes = let r = run_statement recorder program limit stmt s in after_raising block class line r.0 r.1 goes
    does_step (Asserts line stmt) s goes = let r = run_assertion recorder program limit stmt s in after_assertion line r.0 r.1 goes

    abbrev pub runs : List FileStep → Going
    runs [] s = ended Passes s
    runs (step ∷ more) s = does_step step s (runs more)

-- a test of a module, each of whose statements and assertions has so many steps
abbrev pub run_case : Module → ℕ → TestCase → TestRun
run_case m limit case = runs (program_of m) limit (steps_of_case (program_of m) case) (imported (program_of m) [])

-- each test of a suite
abbrev pub file_run : Module → ℕ → List TestCase → List TestRun
file_run m limit cases = map (run_case m limit) cases
