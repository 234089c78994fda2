use Rattle.suite_report.proofs.Sequences.{item_more}
use Rattle.suite_report.proofs.write.write_series.Goals as goal

pub loop-number-preserved : goal.loop-number-preserved
loop-number-preserved g c = item_more g.T.Written.line _ _ _ _ _ _ c.loop-number-test.true c.index-items-number.is c.loop-number.invariant c.in_ok-write.ensures
