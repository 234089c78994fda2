use Rattle.std.proofs.Common.{◌≡◌, take}
use Rattle.std.specs.List.{flat_map}
use Rattle.py_scopes.specs.ModuleRows.{functions_in_item}
use Rattle.py_module_rules.proofs.functions.Functions.of_items.Given as goal

abbrev pub invariant-loop-item : goal.invariant-loop-item
invariant-loop-item l = l.functions ≡ flat_map functions_in_item (take l.item-index l.items)
