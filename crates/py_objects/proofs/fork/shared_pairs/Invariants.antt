use Rattle.std.proofs.Common.{◌≡◌, take}
use Rattle.py_objects.proofs.fork.shared_pairs.Given as goal

abbrev pub invariant-loop-pair : goal.invariant-loop-pair
invariant-loop-pair l = l.shared.items ≡ take l.pair-index l.pairs
