use Rattle.std.proofs.Common.{◌≡◌, ◌++◌, drop, map}
use Rattle.py_plain.specs.Import.{constants_of}
use Rattle.py_import.proofs.space.all_constants.Given as goal

abbrev pub invariant-loop-class : goal.invariant-loop-class
invariant-loop-class l = l.all ++ map (constants_of l.names) (drop l.class-index l.classes) ≡ map (constants_of l.names) l.classes
