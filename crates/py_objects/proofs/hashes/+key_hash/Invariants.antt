use Rattle.std.proofs.Common.{◌≡◌, map, drop}
use Rattle.py_objects.specs.Hashes.{hash_of_parts, key_hash}
use Rattle.py_objects.proofs.hashes.+key_hash.Given as goal

abbrev pub invariant-hash_of_tuple-loop-part : goal.invariant-hash_of_tuple-loop-part
invariant-hash_of_tuple-loop-part l = hash_of_parts l.hash (map key_hash (drop l.part-index l.parts)) ≡ hash_of_parts 2 (map key_hash l.parts)
