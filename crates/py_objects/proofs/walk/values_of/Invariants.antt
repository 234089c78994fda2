use Rattle.std.proofs.Common.{◌≡◌, take}
use Rattle.py_meaning.specs.Walk.{values_of}
use Rattle.py_objects.proofs.walk.values_of.Given as goal

abbrev pub invariant-loop-pair : goal.invariant-loop-pair
invariant-loop-pair l = l.items.items ≡ values_of (take l.pair-index l.pairs)
