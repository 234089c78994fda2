-- The report of a suite: how each test ends, the goals with the first test that takes each, the mutants with their verdicts, and whether
-- anything could go.
use Rattle.std.specs.Prelude.{ℕ, List}
use Rattle.py_syntax.specs.declared.module.Module.{Module}
use Rattle.report_model.specs.declared.report.Report.{Report}
use Rattle.report_model.specs.ReportText.{report_text}
use Rattle.suite_model.specs.declared.suite.Suite.{Suite}
use Rattle.suite_runs.specs.Minimal.{goal_lines, is_minimal}
use Rattle.suite_runs.specs.Verdicts.{outcomes, mutant_lines}

-- with so many steps for each statement, and so many mutants listed at most
abbrev pub judged : Module → Suite → ℕ → ℕ → Report
judged m suite limit cap =
    record {
      «module» = suite.module;
      steps = limit;
      cap = cap;
      tests = outcomes m limit suite.cases;
      goals = goal_lines m limit suite.cases;
      mutants = mutant_lines m limit cap suite.cases;
      minimal = is_minimal m limit cap suite.cases;
    }

-- its text
abbrev pub report_of : Module → Suite → ℕ → ℕ → List ℕ
report_of m suite limit cap = report_text (judged m suite limit cap)
