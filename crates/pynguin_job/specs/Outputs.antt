-- What a job writes.
use Rattle.std.specs.Prelude.{List, [], ◌∷◌, Result, Ok, Err}
use Rattle.py_syntax.specs.declared.module.Module.{Module}
use Rattle.py_syntax.specs.declared.refusal.Refusal.{Refusal}
use Rattle.pyn_model.specs.SuiteText.{suite_text}
use Rattle.pyn_model.specs.Report.{report_text}
use Rattle.pyn_model.specs.Judged.{judged}
use Rattle.pyn_model.specs.Calls.{calls_suite}
use Rattle.pynguin_job.specs.declared.words.Job.{Job}
use Rattle.pynguin_job.specs.declared.words.JobFile.TheVariants.{Suite, Report}
use Rattle.pynguin_job.specs.declared.outputs.Output.{Output}

-- the suite and the report of a module
abbrev pub outputs_for : Job → Module → List Output
outputs_for job module' =
    let suite = calls_suite job.name module' in
    record { file = Suite; text = suite_text module' suite }
    ∷ record { file = Report; text = report_text (judged module' suite 20000 0) }
    ∷ []

-- the files that a job writes for a module, in order: none where the module is refused
abbrev pub outputs_of : Job → Result Module Refusal → List Output
outputs_of job (Ok module') = outputs_for job module'
outputs_of job (Err refusal) = []
