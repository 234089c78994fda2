use Rattle.std.proofs.Common.{◌≡◌, ◌≤◌, take}
use Rattle.std.specs.List.{sum_by}
use Rattle.py_meaning.specs.Keys.{key_cost}
use Rattle.py_objects.proofs.keys.+key_cost.Given as goal

abbrev pub invariant-parts_cost_within-loop-part : goal.invariant-parts_cost_within-loop-part
invariant-parts_cost_within-loop-part l = record { within_limit : l.cost ≤ l.limit; paid : l.cost ≡ sum_by key_cost (take l.part-index l.parts) }
