-- What a suite makes of a mutant: it is killed by the first test that fails on it; else undecided, by the cause of the first that stops;
-- else it survives. (DeMillo, Lipton and Sayward, "Hints on Test Data Selection", 1978, where to kill is to tell apart.)
use Rattle.std.specs.Prelude.{ℕ, ◌+◌, List, [], ◌∷◌, map, Option, Some, None}
use Rattle.pyn_base.specs.declared.ids.TestId.{TestId}
use Rattle.py_syntax.specs.declared.module.Module.{Module}
use Rattle.report_model.specs.declared.lines.MutantLine.{MutantLine}
use Rattle.report_model.specs.declared.lines.TestLine.{TestLine}
use Rattle.report_model.specs.declared.lines.TestLine.TheVariants.{Passes, Fails, Stopped}
use Rattle.report_model.specs.declared.mutant.Verdict.{Verdict}
use Rattle.report_model.specs.declared.mutant.Verdict.TheVariants.{Killed, Survived, Undecided}
use Rattle.report_model.specs.declared.reason.Cause.{Cause}
use Rattle.suite_model.specs.declared.suite.TestCase.{TestCase}
use Rattle.mutant_model.specs.declared.mutant.Mutant.{Mutant}
use Rattle.mutant_model.specs.Mutants.{mutants_of, mutated}
use Rattle.suite_runs.specs.FileRun.{TestRun, file_run}

abbrev pub test_id : ℕ → TestId
test_id k = record { 0 = k }

-- why the first test that stops does
abbrev pub cause_of : Option Cause → Verdict
cause_of None = Survived
cause_of (Some why) = Undecided why

-- from test k on, where a test before it stopped by this cause
abbrev pub verdict_from : ℕ → Option Cause → List TestLine → Verdict
verdict_from k stopped [] = cause_of stopped
verdict_from k stopped (Passes ∷ more) = verdict_from (k + 1) stopped more
verdict_from k stopped (Fails line why ∷ more) = Killed (test_id k) line why
verdict_from k None (Stopped line why ∷ more) = verdict_from (k + 1) (Some why) more
verdict_from k (Some first) (Stopped line why ∷ more) = verdict_from (k + 1) (Some first) more

abbrev pub verdict_of : List TestLine → Verdict
verdict_of outcomes = verdict_from 0 None outcomes

abbrev pub outcomes : Module → ℕ → List TestCase → List TestLine
outcomes m limit cases = map (λ (r : TestRun). r.outcome) (file_run m limit cases)

abbrev pub mutant_line : Module → ℕ → List TestCase → Mutant → MutantLine
mutant_line m limit cases mutant = record { op = mutant.op; line = mutant.line; verdict = verdict_of (outcomes (mutated m mutant.patch) limit cases) }

-- the first so many mutants of a module, each with what these tests make of it
abbrev pub mutant_lines : Module → ℕ → ℕ → List TestCase → List MutantLine
mutant_lines m limit cap cases = map (mutant_line m limit cases) (mutants_of m cap)
