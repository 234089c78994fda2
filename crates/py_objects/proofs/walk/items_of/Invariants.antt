use Rattle.std.proofs.Common.{◌≡◌, take, drop}
use Rattle.py_meaning.specs.Walk.{items_of, shallow}
use Rattle.py_objects.proofs.walk.items_of.Given as goal

abbrev pub invariant-loop-pair : goal.invariant-loop-pair
invariant-loop-pair l = record { taken : l.items.items ≡ items_of (take l.pair-index l.pairs); left : shallow (items_of (drop l.pair-index l.pairs)) ≡ shallow (items_of l.pairs) }
