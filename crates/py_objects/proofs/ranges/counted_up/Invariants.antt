use Rattle.std.proofs.Common.{◌≡◌, ◌++◌, ◌^◌, pos, negsuc, ◌≤ℤ◌}
use Rattle.py_meaning.specs.Values.{range_length}
use Rattle.py_meaning.specs.Walk.{counted}
use Rattle.py_objects.proofs.ranges.counted_up.Given as goal

abbrev pub invariant-loop-stop : goal.invariant-loop-stop
invariant-loop-stop l = record {
  bounds : (negsuc (2 ^ 63) ≤ℤ l.at) × (l.at ≤ℤ (pos (2 ^ 64)));
  left : l.items.items ++ counted l.at l.step (range_length l.at l.stop l.step) ≡ counted l.fn.start l.step (range_length l.fn.start l.stop l.step);
}

abbrev pub decreases-loop-stop : goal.decreases-loop-stop
decreases-loop-stop l = range_length l.at l.stop l.step
