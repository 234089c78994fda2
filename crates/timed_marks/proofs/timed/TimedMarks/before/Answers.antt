use Rattle.std.proofs.Common.{ap, ◌+◌}
use Rattle.timed_marks.proofs.Setting.{one_more}
use Rattle.timed_marks.proofs.timed.TimedMarks.before.Goals as goal

pub loop-times-preserved : goal.loop-times-preserved
loop-times-preserved c =
    record {
      set = one_more c.args.end c.deref-times-items.result.now c.loop-times.times-index _ c.before-in-loop-times.result (record { 0 = c.loop-times.node }) c.loop-times.marks c.set_marks.new.marks c.loop-times-test.true
          c.before-in-loop-times.ensures c.loop-times.invariant.counted c.loop-times.invariant.set c.set_marks.ensures;
      counted = ap (λ n. n + 1) c.loop-times.invariant.counted;
    }
