use Rattle.std.proofs.Common.{◌≡◌, ◌++◌, [], drop, length}
use Rattle.py_plain.specs.Program.{functions_from, classes_from}
use Rattle.py_tables.proofs.tables.Tables.new.Given as goal

abbrev pub invariant-loop-item : goal.invariant-loop-item
invariant-loop-item l = record {
  functions : l.functions.items ++ functions_from (length l.classes) (drop l.item-index l.tree.items) ≡ functions_from 0 l.tree.items;
  classes : classes_from l.classes (length l.functions.items) (drop l.item-index l.tree.items) ≡ classes_from [] 0 l.tree.items;
}
