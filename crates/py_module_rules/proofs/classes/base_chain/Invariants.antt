use Rattle.std.proofs.Common.{◌≡◌, ◌++◌, ◌≤◌, drop}
use Rattle.py_scopes.specs.ModuleRows.{chains_from}
use Rattle.py_module_rules.proofs.classes.base_chain.Given as goal

abbrev pub invariant-loop-item : goal.invariant-loop-item
invariant-loop-item l = record {
  lines : l.lines ++ chains_from l.tables l.number (drop l.item-index l.items) ≡ chains_from l.tables 0 l.items;
  small : l.number ≤ l.item-index;
}
