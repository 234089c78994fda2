use Rattle.std.proofs.Common.{◌≡◌, take}
use Rattle.py_nodes.proofs.copies.names_copy.Given as goal

abbrev pub invariant-loop-name : goal.invariant-loop-name
invariant-loop-name l = l.all ≡ take l.name-index l.names
