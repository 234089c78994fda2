use Rattle.std.proofs.Common.{◌≡◌, take}
use Rattle.std.specs.List.{flat_map}
use Rattle.py_scopes.specs.Names.{standing, constants_of}
use Rattle.py_module_rules.specs.Pieces.{statement_at}
use Rattle.py_module_rules.proofs.statements.module_statement.Given as goal

abbrev pub invariant-loop-item : goal.invariant-loop-item
invariant-loop-item l = record {
  lines : l.lines ≡ flat_map statement_at (standing (take l.item-index l.items));
  names : l.names ≡ constants_of (take l.item-index l.items);
}
