use Rattle.std.proofs.Common.{◌≡◌, ◌++◌, drop}
use Rattle.py_scopes.specs.ModuleRows.{late_futures}
use Rattle.py_module_rules.specs.Pieces.{futures_left}
use Rattle.py_module_rules.proofs.future_line.import_order.Given as goal

abbrev pub invariant-loop-item : goal.invariant-loop-item
invariant-loop-item l = l.lines ++ futures_left l.late (drop l.item-index l.rest) ≡ late_futures l.rest
