use Rattle.std.proofs.Common.{◌≡◌, take}
use Rattle.std.specs.List.{flat_map}
use Rattle.py_scopes.specs.Uses.{Imported, at}
use Rattle.py_uses.proofs.pieces.add_import.Given as goal

abbrev pub invariant-loop-name : goal.invariant-loop-name
invariant-loop-name l = l.uses ≡ flat_map (λ name. at l.line (Imported name)) (take l.name-index l.names)
