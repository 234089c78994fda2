use Rattle.std.proofs.Common.{◌≡◌, take}
use Rattle.py_meaning.specs.Walk.{keys_of}
use Rattle.py_objects.proofs.walk.keys_of.Given as goal

abbrev pub invariant-loop-pair : goal.invariant-loop-pair
invariant-loop-pair l = l.items.items ≡ keys_of (take l.pair-index l.pairs)
