use Rattle.py_sites.proofs.Lists.{one_more, all_done}
use Rattle.py_sites.proofs.last_part.slice_part.Goals as goal

pub loop-one-preserved : goal.loop-one-preserved
loop-one-preserved g c = one_more g.T.Parted.listed c.args.limit c.args.xs.now c.loop-one.one-index _ _ _ _ c.loop-one-test.true c.one-item.is c.loop-one.invariant c.last_part-found.ensures

pub returns : goal.returns
returns g c = all_done g.T.Parted.listed c.args.limit c.args.xs.now c.loop-one.one-index _ _ c.loop-one-test.false c.loop-one.invariant
