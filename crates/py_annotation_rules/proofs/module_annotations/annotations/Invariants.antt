use Rattle.std.proofs.Common.{◌≡◌, ◌++◌, [], take}
use Rattle.std.specs.List.{flat_map}
use Rattle.py_scopes.specs.Names.{standing, classes_in, imports_in}
use Rattle.py_annotation_rules.specs.Found.{annotations_at}
use Rattle.py_annotation_rules.proofs.module_annotations.annotations.Given as goal

abbrev pub invariant-loop-i : goal.invariant-loop-i
invariant-loop-i l = record {
  lines : l.lines ≡ [] ++ flat_map (annotations_at l.tree) (standing (take l.i l.items));
  classes : l.earlier.classes ≡ classes_in (take l.i l.items);
  imports : l.earlier.imports ≡ imports_in (take l.i l.items);
}
