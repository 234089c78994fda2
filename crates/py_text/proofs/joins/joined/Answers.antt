use Rattle.py_text.proofs.Joining.{next_text}
use Rattle.py_text.proofs.joins.joined.Goals as goal

pub loop-text-preserved : goal.loop-text-preserved
loop-text-preserved c =
    next_text c.args.between.now c.in-Some.others.now c.loop-text.text-index c.text-item.result _ c.loop-text.joined.items c.loop-text-test.true c.text-item.is c.loop-text.invariant
    c.in_ok-extend_from_slice.ensures.items c.as_slice-in-loop-text.ensures c.in_ok-extend_from_slice-2.ensures.items
