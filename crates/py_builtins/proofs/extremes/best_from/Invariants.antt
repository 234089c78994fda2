use Rattle.std.proofs.Common.{◌≡◌, ◌≤◌, drop}
use Rattle.py_meaning.specs.Builtins.{best_from}
use Rattle.py_builtins.specs.Extremes.{better}
use Rattle.py_builtins.proofs.extremes.best_from.Given as goal

abbrev pub invariant-loop-item : goal.invariant-loop-item
invariant-loop-item l = record {
  left : best_from (better l.which l.objects) l.best (drop l.item-index l.rest) l.fuel ≡ best_from (better l.which l.objects) l.first l.rest l.fn.fuel;
  fuel : l.fuel ≤ l.fn.fuel;
}
