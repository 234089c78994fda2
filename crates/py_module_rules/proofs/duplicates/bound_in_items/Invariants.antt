use Rattle.std.proofs.Common.{◌≡◌, take}
use Rattle.std.specs.List.{flat_map}
use Rattle.py_scopes.specs.Names.{bound_by_item}
use Rattle.py_module_rules.proofs.duplicates.bound_in_items.Given as goal

abbrev pub invariant-loop-item : goal.invariant-loop-item
invariant-loop-item l = l.bounds.items ≡ flat_map bound_by_item (take l.item-index l.items)
