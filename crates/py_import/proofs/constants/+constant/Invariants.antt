use Rattle.std.proofs.Common.{◌≡◌, map, take}
use Rattle.py_plain.specs.Import.{constant}
use Rattle.py_import.proofs.constants.+constant.Given as goal

abbrev pub invariant-constants-loop-part : goal.invariant-constants-loop-part
invariant-constants-loop-part l = l.values.items ≡ map (λ part. constant part l.names) (take l.part-index l.parts)
