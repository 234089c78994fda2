use Rattle.first_report.proofs.Sequences.{goal_more}
use Rattle.first_report.proofs.write.write_goals.Goals as goal

pub loop-number-preserved : goal.loop-number-preserved
loop-number-preserved c = goal_more _ _ _ _ _ _ c.loop-number-test.true c.loop-number.invariant c.in_ok-write_goal.ensures
