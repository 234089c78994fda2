use Rattle.std.proofs.Common.{◌≡◌, take}
use Rattle.std.specs.List.{flat_map}
use Rattle.py_scopes.specs.Names.{standing, classes_in}
use Rattle.py_module_rules.specs.Pieces.{base_at}
use Rattle.py_module_rules.proofs.classes.unknown_base.Given as goal

abbrev pub invariant-loop-item : goal.invariant-loop-item
invariant-loop-item l = record {
  lines : l.lines ≡ flat_map base_at (standing (take l.item-index l.items));
  classes : l.classes ≡ classes_in (take l.item-index l.items);
}
