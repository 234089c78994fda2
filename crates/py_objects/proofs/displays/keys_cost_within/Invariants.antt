use Rattle.std.proofs.Common.{◌≡◌, ◌≤◌, take}
use Rattle.std.specs.List.{sum_by}
use Rattle.py_meaning.specs.Keys.{key_cost}
use Rattle.py_objects.proofs.displays.keys_cost_within.Given as goal

abbrev pub invariant-loop-pair : goal.invariant-loop-pair
invariant-loop-pair l = record { within_limit : l.cost ≤ l.limit; paid : l.cost ≡ sum_by (λ pair. key_cost pair.0) (take l.pair-index l.pairs) }
