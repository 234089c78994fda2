use Rattle.std.proofs.Common.{◌≡◌, map, drop, length}
use Rattle.py_meaning.specs.Keys.{same_key, all_agree}
use Rattle.py_objects.proofs.keys.+same_key.Given as goal

abbrev pub invariant-are_same_keys-loop-at : goal.invariant-are_same_keys-loop-at
invariant-are_same_keys-loop-at l = record {
  same_length : length l.xs ≡ length l.ys;
  left : all_agree (map same_key (drop l.at l.xs)) (drop l.at l.ys) ≡ all_agree (map same_key l.xs) l.ys;
}
