-- When a report has a text: its numbers are of at most 32 bits, and its names are names.
use Rattle.std.specs.Prelude.{◌≡◌, ℕ, ◌<◌, ◌≤◌, ◌^◌, true, length, IfSome}
use Rattle.std.specs.List.{AllByRecursion}
use Rattle.report_model.specs.declared.lines.GoalLine.{GoalLine}
use Rattle.report_model.specs.declared.lines.MutantLine.{MutantLine}
use Rattle.report_model.specs.declared.lines.TestLine.{TestLine}
use Rattle.report_model.specs.declared.lines.TestLine.TheVariants as test
use Rattle.report_model.specs.declared.mutant.Verdict.{Verdict}
use Rattle.report_model.specs.declared.mutant.Verdict.TheVariants as verdict
use Rattle.report_model.specs.declared.reason.ShownReason.{ShownReason}
use Rattle.report_model.specs.declared.reason.ShownReason.TheVariants as reason
use Rattle.report_model.specs.declared.report.Report.{Report}
use Rattle.report_model.specs.Fields.{is_name}
use Rattle.report_model.specs.ReportText.{Totals}

abbrev pub IsSmall : ℕ → Type 0
IsSmall n = n < 2 ^ 32

abbrev pub FitsReason : ShownReason → Type 0
FitsReason reason.Assert = Unit {0}
FitsReason (reason.Raised class) = is_name class ≡ true
FitsReason reason.NotRaised = Unit {0}

abbrev pub FitsTest : TestLine → Type 0
FitsTest test.Passes = Unit {0}
FitsTest (test.Fails line why) = IsSmall line × FitsReason why
FitsTest (test.Stopped line why) = IsSmall line

abbrev pub FitsGoal : GoalLine → Type 0
FitsGoal goal = IsSmall goal.line × IfSome goal.by (λ id. IsSmall id.0)

abbrev pub FitsVerdict : Verdict → Type 0
FitsVerdict (verdict.Killed id line why) = IsSmall id.0 × IsSmall line × FitsReason why
FitsVerdict verdict.Survived = Unit {0}
FitsVerdict (verdict.Undecided why) = Unit {0}

abbrev pub FitsMutant : MutantLine → Type 0
FitsMutant mutant = IsSmall mutant.line × FitsVerdict mutant.verdict

-- Tests, goals and mutants are numbered from 0, and the last number is of at most 32 bits too.
pub record Fits (report : Report) : Type 0 where
  pub name : is_name report.«module» ≡ true
  pub steps : IsSmall report.steps
  pub cap : IsSmall report.cap
  pub tests : AllByRecursion FitsTest report.tests
  pub goals : AllByRecursion FitsGoal report.goals
  pub mutants : AllByRecursion FitsMutant report.mutants
  pub few_tests : length report.tests ≤ 2 ^ 32
  pub few_goals : length report.goals ≤ 2 ^ 32
  pub few_mutants : length report.mutants ≤ 2 ^ 32

pub record FitsTotals (totals : Totals) : Type 0 where
  pub covered : IsSmall totals.covered
  pub goals : IsSmall totals.goals
  pub killed : IsSmall totals.killed
  pub mutants : IsSmall totals.mutants
