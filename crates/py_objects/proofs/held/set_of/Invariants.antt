use Rattle.std.proofs.Common.{◌≡◌, take}
use Rattle.py_objects.proofs.held.set_of.Given as goal

abbrev pub invariant-loop-hash : goal.invariant-loop-hash
invariant-loop-hash l = l.set.keys ≡ take l.hash-index l.hashes
