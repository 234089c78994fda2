use Rattle.std.proofs.Common.{◌≡◌, drop, map}
use Rattle.py_uses.specs.Blocks.{name_of, has_twice}
use Rattle.py_uses.proofs.Misplaced.{twice_after}
use Rattle.py_uses.proofs.arguments.has_twice.Given as goal

abbrev pub invariant-loop-row : goal.invariant-loop-row
invariant-loop-row l = twice_after l.seen (map name_of (drop l.row-index l.named)) ≡ has_twice (map name_of l.named)
