use Rattle.suite_check.proofs.Judged.{judged_more}
use Rattle.suite_check.proofs.judge.judge_items.Goals as goal

pub loop-item-preserved : goal.loop-item-preserved
loop-item-preserved c =
    judged_more _ _ _ _ _ _ _ _ _ _ c.item-item.result c.loop-item-test.true c.item-item.is c.loop-item.invariant
    c.in_ok-number.ensures.tests c.in_ok-number.ensures.goals c.in_ok-number.ensures.next
