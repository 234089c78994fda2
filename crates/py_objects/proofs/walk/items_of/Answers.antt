use Rattle.std.proofs.Common.{sym, ◌∙◌}
use Rattle.py_objects.proofs.Walks.{item_taken, items_left, item_deep}
use Rattle.py_objects.proofs.walk.items_of.Goals as goal

pub returns-in-None : goal.returns-in-None
returns-in-None c = item_deep c.args.pairs.now c.loop-pair.pair-index c.pair-item.result c.loop-pair-test.true c.pair-item.is c.loop-pair.invariant.left (sym c.in_ok-tuple.ensures ∙ c.in-None.is)

pub loop-pair-preserved : goal.loop-pair-preserved
loop-pair-preserved c = let m = sym c.in_ok-tuple.ensures ∙ c.in-Some.is in record {
  taken = item_taken c.args.pairs.now c.loop-pair.pair-index c.pair-item.result c.loop-pair-test.true c.pair-item.is _ _ c.in-Some.tuple c.loop-pair.invariant.taken m c.in_ok-push-in-Some.ensures.items;
  left = items_left c.args.pairs.now c.loop-pair.pair-index c.pair-item.result c.loop-pair-test.true c.pair-item.is c.in-Some.tuple c.loop-pair.invariant.left m;
}
