use Rattle.std.proofs.Common.{◌≡◌, max, map, drop}
use Rattle.py_meaning.specs.Tuples.{depth, deepest}
use Rattle.py_meaning.proofs.tuple.deepest.Given as goal

abbrev pub invariant-loop-part : goal.invariant-loop-part
invariant-loop-part l = max l.found (deepest (map depth (drop l.part-index l.parts))) ≡ deepest (map depth l.parts)
