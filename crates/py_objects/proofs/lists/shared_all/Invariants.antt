use Rattle.std.proofs.Common.{◌≡◌, take}
use Rattle.py_objects.proofs.lists.shared_all.Given as goal

abbrev pub invariant-loop-item : goal.invariant-loop-item
invariant-loop-item l = l.shared.items ≡ take l.item-index l.items
