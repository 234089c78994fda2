use Rattle.std.proofs.Common.{◌≡◌, take}
use Rattle.std.specs.List.{flat_map}
use Rattle.py_name_rules.specs.Places.{item_names}
use Rattle.py_name_rules.proofs.known.module_names.Given as goal

abbrev pub invariant-loop-item : goal.invariant-loop-item
invariant-loop-item l = l.names ≡ flat_map item_names (take l.item-index l.items)
