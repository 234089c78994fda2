use Rattle.std.proofs.Common.{◌≡◌, ◌≤◌, drop, take, length}
use Rattle.py_meaning.specs.Builtins.{add_all}
use Rattle.py_builtins.proofs.sums.add_each.Given as goal

abbrev pub invariant-loop-item : goal.invariant-loop-item
invariant-loop-item l = record {
  left : add_all l.total (drop l.item-index l.items) l.objects l.fuel ≡ add_all l.start l.items l.fn.objects l.fn.fuel;
  kept : take (length l.fn.objects) l.objects ≡ l.fn.objects;
  fuel : l.fuel ≤ l.fn.fuel;
}
