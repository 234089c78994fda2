-- The headline: the suite can be trusted.
use Rattle.std.specs.Prelude.{◌≡◌, ℕ, List, length, Some, Ok, All, chars, encode_utf8_all}
use Rattle.std.specs.FinMap.{get}
use Rattle.pyn_base.specs.Files.{Files, content}
use Rattle.py_syntax.specs.declared.module.Module.{Module}
use Rattle.pyn_model.specs.declared.test.Suite.{Suite}
use Rattle.pyn_model.specs.declared.report.TestLine.TheVariants.{Passes}
use Rattle.pyn_model.specs.Goals.{goals_of}
use Rattle.pyn_model.specs.SuiteText.{suite_text}
use Rattle.pyn_model.specs.SuiteRead.{suite_of}
use Rattle.pyn_model.specs.Calls.{calls_suite}
use Rattle.pyn_model.specs.FileRun.{TestRun, file_run}
use Rattle.pyn_model.specs.Report.{report_text}
use Rattle.pyn_model.specs.Judged.{judged, goals_taken, IsMinimal}
use Rattle.pynguin_job.specs.declared.words.Job.{Job}
use Rattle.pynguin_job.specs.Reading.{module_in}

-- The files of a desk before and after a job that is done.
pub record IsTrusted (job : Job) (before after : Files) : Type 0 where
  pub «module» : Module
  pub suite : Suite
  pub suite_bytes : List ℕ
  -- the module file is that of a module
  pub read : module_in (content before job.source) ≡ Ok «module»
  -- the suite file, read again, is the suite, under the name of the module
  pub suite_file : get after job.suite ≡ Some suite_bytes
  pub written : suite_bytes ≡ encode_utf8_all (suite_text «module» suite)
  pub read_again : suite_of «module» (chars suite_bytes) ≡ Some suite
  pub chosen : suite ≡ calls_suite job.name «module»
  -- each test passes, where each statement has 20,000 steps
  pub passes : All (λ (ran : TestRun). ran.outcome ≡ Passes) (file_run «module» 20000 suite.cases)
  -- the report file is the report of exactly that run
  pub report_file : get after job.report ≡ Some (encode_utf8_all (report_text (judged «module» suite 20000 0)))
  -- no test can go without losing a goal, and no goal is missing
  pub minimal : IsMinimal «module» 20000 suite.cases
  pub complete : goals_taken «module» 20000 suite.cases ≡ length (goals_of «module»)
