-- What a check says of a suite and of the bytes of a report: yes, exactly where every test passes and the bytes are the suite's report.
use Rattle.std.specs.Prelude.{ℕ, ◌+◌, ◌==◌, if◌then◌else◌, List, [], ◌∷◌, Option, Some, None, bytes_eq}
use Rattle.py_syntax.specs.declared.module.Module.{Module}
use Rattle.report_model.specs.declared.lines.TestLine.{TestLine}
use Rattle.report_model.specs.declared.lines.TestLine.TheVariants.{Passes, Fails, Stopped}
use Rattle.suite_model.specs.declared.suite.Suite.{Suite}
use Rattle.suite_runs.specs.declared.answer.Answer.{Answer}
use Rattle.suite_runs.specs.declared.answer.Answer.TheVariants.{Yes, NoSuite, NoReport}
use Rattle.suite_runs.specs.Judged.{report_of}
use Rattle.suite_runs.specs.Verdicts.{outcomes}

-- the line at which the first test that doesn't pass ends
abbrev pub first_fault : List TestLine → Option ℕ
first_fault [] = None
first_fault (Passes ∷ more) = first_fault more
first_fault (Fails line why ∷ more) = Some line
first_fault (Stopped line why ∷ more) = Some line

-- The number of the first line in which two texts differ, where the present one is this: a line feed belongs to its line, so a text that is
-- cut, or goes on, differs in the line where it does.
abbrev pub first_difference : ℕ → List ℕ → List ℕ → ℕ
first_difference line (c ∷ cs) (d ∷ ds) = if c == d then first_difference (if c == 10 then line + 1 else line) cs ds else line
first_difference line _ _ = line

abbrev pub report_answer : List ℕ → List ℕ → Answer
report_answer wanted given = if bytes_eq wanted given then Yes else NoReport (first_difference 1 wanted given)

abbrev pub answer_by : Option ℕ → List ℕ → List ℕ → Answer
answer_by (Some line) wanted given = NoSuite line
answer_by None wanted given = report_answer wanted given

-- with so many steps for each statement, and so many mutants listed at most
abbrev pub checked : Module → Suite → ℕ → ℕ → List ℕ → Answer
checked m suite limit cap report = answer_by (first_fault (outcomes m limit suite.cases)) (report_of m suite limit cap) report
