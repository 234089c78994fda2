use Rattle.std.proofs.Common.{◌≡◌, ◌+◌, ◌*◌, ◌≤◌, None}
use Rattle.pyn_bench.specs.Runs.{after, calls, given}
use Rattle.pyn_bench.proofs.runs.calls.Given as goal

abbrev pub invariant-loop-left : goal.invariant-loop-left
invariant-loop-left l = record {
  value : after l.made.ended l.made.steps (calls l.machine.tables.now l.stmt l.left l.machine.state) ≡ calls l.fn.machine.tables.now l.stmt l.fn.times l.fn.machine.state;
  count : l.made.ended + l.left ≡ l.fn.times;
  few : l.made.steps ≤ l.made.ended * given;
  goes : l.machine.ended ≡ None;
}

abbrev pub decreases-loop-left : goal.decreases-loop-left
decreases-loop-left l = l.left
