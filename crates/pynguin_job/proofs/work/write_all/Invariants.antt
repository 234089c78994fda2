use Rattle.pynguin_job.proofs.Writes.{WroteFirst}
use Rattle.pynguin_job.proofs.work.write_all.Given as goal

abbrev pub invariant-loop-output : goal.invariant-loop-output
invariant-loop-output g l = WroteFirst l.job l.outputs l.output-index (g.D.Desk.state l.initial.desk) (g.D.Desk.state l.desk)
