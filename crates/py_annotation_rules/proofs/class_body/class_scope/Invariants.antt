use Rattle.std.proofs.Common.{◌≡◌, take}
use Rattle.std.specs.List.{flat_map}
use Rattle.py_scopes.specs.ModuleRows.{scope_in_item}
use Rattle.py_annotation_rules.proofs.class_body.class_scope.Given as goal

abbrev pub invariant-loop-item : goal.invariant-loop-item
invariant-loop-item l = l.lines ≡ flat_map (scope_in_item l.tree.future) (take l.item-index l.items)
