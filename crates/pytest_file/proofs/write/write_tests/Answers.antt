use Rattle.pytest_file.proofs.Calls.{item_more, item_within}
use Rattle.pytest_file.proofs.write.write_tests.Goals as goal

pub loop-item-preserved : goal.loop-item-preserved
loop-item-preserved c = (
  item_more _ _ _ _ _ _ _ c.item-item.result c.loop-item-test.true c.item-item.is c.loop-item.invariant.0 c.in_ok-number.ensures.text c.in_ok-number.ensures.next,
  item_within _ _ _ _ c.loop-item.invariant.1 c.in_ok-number.ensures.next,
)
