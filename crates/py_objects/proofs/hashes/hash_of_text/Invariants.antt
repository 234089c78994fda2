use Rattle.std.proofs.Common.{◌≡◌, drop}
use Rattle.py_objects.specs.Hashes.{hash_of_parts}
use Rattle.py_objects.proofs.hashes.hash_of_text.Given as goal

abbrev pub invariant-loop-c : goal.invariant-loop-c
invariant-loop-c l = hash_of_parts l.hash (drop l.c-index l.text) ≡ hash_of_parts 1 l.text
