use Rattle.py_accept.proofs.Earlier.{one_more, all_done}
use Rattle.py_accept.proofs.earliest.earliest_of.Goals as goal

pub loop-rule-preserved : goal.loop-rule-preserved
loop-rule-preserved c = one_more c.args.rules.now c.loop-rule.rule-index _ _ _ _ c.loop-rule-test.true c.loop-rule.invariant (rw (c.fault_of.ensures) at c.earlier-found.ensures)

pub returns : goal.returns
returns c = all_done c.args.rules.now c.loop-rule.rule-index _ _ c.loop-rule-test.false c.loop-rule.invariant
