use Rattle.std.proofs.Common.{◌≡◌}
use Rattle.timed_marks.proofs.Setting.{SetTo}
use Rattle.timed_marks.proofs.timed.TimedMarks.before.Given as goal

abbrev pub invariant-loop-times : goal.invariant-loop-times
invariant-loop-times l = record {
  set : SetTo l.end l.times-items l.times-index l.marks;
  counted : l.node ≡ l.times-index;
}
