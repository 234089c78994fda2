use Rattle.std.proofs.Common.{◌≡◌, ◌+◌, ◌*◌, ◌≤◌, length, drop}
use Rattle.py_meaning.specs.Equal.{equal_within}
use Rattle.py_meaning.specs.Less.{ordered_within, ordered_parts}
use Rattle.py_objects.proofs.objects.Objects.+order.Given as goal

abbrev pub invariant-ordered_parts-loop-at : goal.invariant-ordered_parts-loop-at
invariant-ordered_parts-loop-at l = record {
  within : l.at ≤ length l.ys;
  left : ordered_parts l.order (equal_within l.levels l.self) (ordered_within l.levels l.self l.order) (drop l.at l.xs) (drop l.at l.ys) l.fuel ≡ ordered_parts l.order (equal_within l.levels l.self) (ordered_within l.levels l.self l.order) l.xs l.ys l.fn.fuel;
}

-- Parts are one level further than the values that they are parts of.
abbrev pub decreases-ordered_parts : goal.decreases-ordered_parts
decreases-ordered_parts l = 4 * l.levels + 3

abbrev pub decreases-ordered_within : goal.decreases-ordered_within
decreases-ordered_within l = 4 * l.levels + 2

abbrev pub decreases-ordered_refs : goal.decreases-ordered_refs
decreases-ordered_refs l = 4 * l.levels + 1

abbrev pub decreases-ordered_sequences : goal.decreases-ordered_sequences
decreases-ordered_sequences l = 4 * l.levels
