use Rattle.std.proofs.Common.{◌≡◌, take}
use Rattle.py_nodes.proofs.copies.+copies.Given as goal

abbrev pub invariant-annotations-loop-part : goal.invariant-annotations-loop-part
invariant-annotations-loop-part l = l.all ≡ take l.part-index l.parts
