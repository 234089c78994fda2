use Rattle.std.proofs.Common.{◌≡◌, ◌++◌, take}
use Rattle.py_annotation_rules.proofs.scope.Known.add_imports.Given as goal

abbrev pub invariant-loop-name : goal.invariant-loop-name
invariant-loop-name l = record {
  classes : l.self.classes ≡ l.fn.self.classes;
  imports : l.self.imports ≡ l.fn.self.imports ++ take l.name-index l.names;
}
