use Rattle.std.proofs.Common.{sym, ◌∙◌, arith}
use Rattle.std.proofs.lemmas.Int.{ints}
use Rattle.py_objects.proofs.Counting.{one_down, pushed_down, less_true}
use Rattle.py_objects.proofs.ranges.counted_down.Goals as goal

pub loop-stop-smaller : goal.loop-stop-smaller
loop-stop-smaller c = let h = less_true c.args.stop c.loop-stop.at (sym c.is_less.ensures ∙ c.loop-stop-test.true) in
    let e = one_down c.loop-stop.at c.args.stop c.args.step c.requires.goes h in
    rw c.next-at.ensures (omega (arith, e))

pub loop-stop-preserved : goal.loop-stop-preserved
loop-stop-preserved c = let h = less_true c.args.stop c.loop-stop.at (sym c.is_less.ensures ∙ c.loop-stop-test.true) in
    record {
      bounds = rw c.next-at.ensures (omega (arith, ints, h), omega (arith, ints, h));
      left = rw c.next-at.ensures (pushed_down _ _ c.loop-stop.at c.args.stop c.args.step _ c.requires.goes h c.in_ok-push.ensures.items c.loop-stop.invariant.left);
    }
