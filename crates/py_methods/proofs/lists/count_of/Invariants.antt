use Rattle.std.proofs.Common.{◌≡◌, ◌≤◌, drop}
use Rattle.py_meaning.specs.ListMethods.{equals_from}
use Rattle.py_methods.proofs.lists.count_of.Given as goal

abbrev pub invariant-loop-item : goal.invariant-loop-item
invariant-loop-item l = record {
  left : equals_from l.objects l.x l.count (drop l.item-index l.items) l.fuel ≡ equals_from l.objects l.x 0 l.items l.fn.fuel;
  bound : l.count ≤ l.item-index;
  fuel : l.fuel ≤ l.fn.fuel;
}
