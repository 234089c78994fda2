use Rattle.std.proofs.Common.{◌≡◌, max, map, drop}
use Rattle.py_meaning.specs.Tuples.{depth, deepest}
use Rattle.py_meaning.specs.Walk.{keys_of}
use Rattle.py_objects.proofs.collect.deepest_key.Given as goal

abbrev pub invariant-loop-pair : goal.invariant-loop-pair
invariant-loop-pair l = max l.found (deepest (map depth (keys_of (drop l.pair-index l.pairs)))) ≡ deepest (map depth (keys_of l.pairs))
