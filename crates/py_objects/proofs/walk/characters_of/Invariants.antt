use Rattle.std.proofs.Common.{◌≡◌, take}
use Rattle.py_meaning.specs.Walk.{characters_of}
use Rattle.py_objects.proofs.walk.characters_of.Given as goal

abbrev pub invariant-loop-c : goal.invariant-loop-c
invariant-loop-c l = l.items.items ≡ characters_of (take l.c-index l.s)
