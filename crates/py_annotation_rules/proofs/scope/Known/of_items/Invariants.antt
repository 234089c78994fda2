use Rattle.std.proofs.Common.{◌≡◌, take}
use Rattle.py_scopes.specs.Names.{classes_in, imports_in}
use Rattle.py_annotation_rules.proofs.scope.Known.of_items.Given as goal

abbrev pub invariant-loop-item : goal.invariant-loop-item
invariant-loop-item l = record {
  classes : l.known.classes ≡ classes_in (take l.item-index l.items);
  imports : l.known.imports ≡ imports_in (take l.item-index l.items);
}
