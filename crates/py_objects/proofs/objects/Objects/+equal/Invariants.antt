use Rattle.std.proofs.Common.{◌≡◌, ◌+◌, ◌*◌, drop}
use Rattle.py_meaning.specs.Worlds.{pairs}
use Rattle.py_meaning.specs.Equal.{equal_within, equal_parts, equal_pairs}
use Rattle.py_objects.proofs.objects.Objects.+equal.Given as goal

abbrev pub invariant-equal_parts-loop-at : goal.invariant-equal_parts-loop-at
invariant-equal_parts-loop-at l = equal_parts (equal_within l.levels l.self) (drop l.at l.xs) (drop l.at l.ys) l.fuel ≡ equal_parts (equal_within l.levels l.self) l.xs l.ys l.fn.fuel

abbrev pub invariant-equal_pairs-loop-pair : goal.invariant-equal_pairs-loop-pair
invariant-equal_pairs-loop-pair l = equal_pairs (equal_within l.levels l.self) (pairs l.self l.left) (drop l.pair-index l.right) l.fuel ≡ equal_pairs (equal_within l.levels l.self) (pairs l.self l.left) l.right l.fn.fuel

-- Parts are one level further than the values that they are parts of.
abbrev pub decreases-equal_parts : goal.decreases-equal_parts
decreases-equal_parts l = 5 * l.levels + 3

abbrev pub decreases-equal_pairs : goal.decreases-equal_pairs
decreases-equal_pairs l = 5 * l.levels + 4

abbrev pub decreases-equal_pair : goal.decreases-equal_pair
decreases-equal_pair l = 5 * l.levels + 3

abbrev pub decreases-equal_within : goal.decreases-equal_within
decreases-equal_within l = 5 * l.levels + 2

abbrev pub decreases-equal_refs : goal.decreases-equal_refs
decreases-equal_refs l = 5 * l.levels + 1

abbrev pub decreases-equal_sequences : goal.decreases-equal_sequences
decreases-equal_sequences l = 5 * l.levels

abbrev pub decreases-equal_dicts : goal.decreases-equal_dicts
decreases-equal_dicts l = 5 * l.levels
