use Rattle.std.proofs.Common.{refl}
use Rattle.std.specs.Result.{result_err}
use Rattle.pynguin_job.specs.declared.fault.JobFault.TheVariants.{Memory}
use Rattle.pynguin_job.proofs.Runs.{ends_after, refused_leaves, refused_cause, calls_of, leaves_of, cause_of}
use Rattle.pynguin_job.proofs.Modules.{module_in-IsFirst}
use Rattle.pynguin_job.proofs.Trust.{trusted_of}
use Rattle.pynguin_job.proofs.work.work.Goals as goal

pub returns-in-Err-clause-leaves : goal.returns-in-Err-clause-leaves
returns-in-Err-clause-leaves g c = refused_leaves _ _ _ _ _ _ _ _ c.as_str.ensures.chars c.from_refusal.ensures c.in-Ok.ensures

pub returns-in-Err-clause-cause : goal.returns-in-Err-clause-cause
returns-in-Err-clause-cause g c =
    refused_cause c.args.job.now _ _ _ _ _ _ _ _ c.as_str.ensures.chars c.as_slice.ensures c.from_refusal.ensures c.in-Ok.ensures c.in-Err.ensures

pub returns-in_default-clause-leaves : goal.returns-in_default-clause-leaves
returns-in_default-clause-leaves g c = ends_after _ _ _ _ _ _ Memory c.as_str.ensures.chars (λ rest. refl, refl) c.in-Ok.ensures

pub returns-clause-leaves : goal.returns-clause-leaves
returns-clause-leaves g c =
    leaves_of _ _ _ _ _ _ _
    (calls_of c.args.job.now _ (g.D.Desk.state c.args.desk.now) (g.D.Desk.state c.read.new.self) (g.D.Desk.state c.write_all.new.desk) _
    _ _ _ _ _ (result_err c.write_all.result)
    c.as_str.ensures.chars c.as_slice.ensures c.in-Ok-outputs_of.ensures c.as_slice-2.ensures.value c.in-Ok.ensures c.in-Ok-module_in.ensures c.write_all.ensures)

pub returns-clause-cause : goal.returns-clause-cause
returns-clause-cause g c =
    cause_of _ _ _ _ _ _ _
    (calls_of c.args.job.now _ (g.D.Desk.state c.args.desk.now) (g.D.Desk.state c.read.new.self) (g.D.Desk.state c.write_all.new.desk) _
    _ _ _ _ _ (result_err c.write_all.result)
    c.as_str.ensures.chars c.as_slice.ensures c.in-Ok-outputs_of.ensures c.as_slice-2.ensures.value c.in-Ok.ensures c.in-Ok-module_in.ensures c.write_all.ensures)

pub returns-clause-trusted : goal.returns-clause-trusted
returns-clause-trusted g c =
    trusted_of _ _ _ _ _ _ c.write_all.result c.requires.distinct c.requires.named
    (calls_of c.args.job.now _ (g.D.Desk.state c.args.desk.now) (g.D.Desk.state c.read.new.self) (g.D.Desk.state c.write_all.new.desk) _
    _ _ _ _ _ (result_err c.write_all.result)
    c.as_str.ensures.chars c.as_slice.ensures c.in-Ok-outputs_of.ensures c.as_slice-2.ensures.value c.in-Ok.ensures c.in-Ok-module_in.ensures c.write_all.ensures)

pub outputs_of-requires : goal.outputs_of-requires
outputs_of-requires g c = module_in-IsFirst c.as_slice.result.now c.in-Ok-module_in.module c.in-Ok-module_in.ensures
