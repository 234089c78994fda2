use Rattle.std.proofs.Common.{◌≡◌, ◌++◌, take}
use Rattle.std.specs.List.{flat_map}
use Rattle.py_scopes.specs.Pieces.{pieces_of_member}
use Rattle.py_uses.proofs.pieces.add_members.Given as goal

abbrev pub invariant-loop-member : goal.invariant-loop-member
invariant-loop-member l = l.pieces.items ≡ l.fn.pieces.items ++ flat_map (pieces_of_member l.class) (take l.member-index l.class.members)
