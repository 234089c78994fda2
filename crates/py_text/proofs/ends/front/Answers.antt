use Rattle.py_text.proofs.Fronts.{stops_at, all_pass}
use Rattle.py_text.proofs.ends.front.Goals as goal

pub returns-then-not-passes : goal.returns-then-not-passes
returns-then-not-passes g c = stops_at _ _ _ c.index-text-i.result c.passes.result c.loop-i-test.true c.index-text-i.is c.passes.ensures c.if-not-passes.true c.loop-i.invariant

pub returns : goal.returns
returns g c = all_pass _ _ c.loop-i.i c.loop-i-test.false c.loop-i.invariant
