use Rattle.std.proofs.Common.{◌≡◌, take}
use Rattle.std.specs.List.{flat_map}
use Rattle.py_scopes.specs.Pieces.{pieces_of_item}
use Rattle.py_uses.proofs.pieces.pieces_of.Given as goal

abbrev pub invariant-loop-item : goal.invariant-loop-item
invariant-loop-item l = l.pieces.items ≡ flat_map pieces_of_item (take l.item-index l.tree.items)
