use Rattle.std.proofs.lemmas.Result.{err_from_is_err_and}
use Rattle.pynguin_job.proofs.Writes.{wrote_more, stopped}
use Rattle.pynguin_job.proofs.work.write_all.Goals as goal

pub returns-in_err-write_file : goal.returns-in_err-write_file
returns-in_err-write_file g c =
    let p = err_from_is_err_and c.from_residual.result c.from_residual.ensures.1 in
    rw (p.1, p.2)
    (stopped _ _ _ c.output-item.result _ _ _ _ c.loop-output-test.true c.output-item.is c.in_err-write_file.ensures.stops c.loop-output.invariant c.in_err-write_file.ensures.writes)

pub loop-output-preserved : goal.loop-output-preserved
loop-output-preserved g c =
    wrote_more _ _ _ c.output-item.result _ _ _ c.loop-output-test.true c.output-item.is c.write_file.ensures.legible c.loop-output.invariant c.in_ok-write_file.ensures.writes
