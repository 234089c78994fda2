use Rattle.std.proofs.Common.{◌≡◌, take}
use Rattle.std.specs.List.{flat_map}
use Rattle.py_scopes.specs.Constants.{has_display}
use Rattle.py_scopes.specs.ModuleRows.{defaults_where}
use Rattle.py_module_rules.proofs.parameters.mutable_default.Given as goal

abbrev pub invariant-loop-item : goal.invariant-loop-item
invariant-loop-item l = l.lines ≡ flat_map (defaults_where has_display) (take l.item-index l.items)
