use Rattle.std.proofs.Common.{◌≡◌, ◌+◌, ◌≤◌, count_by}
use Rattle.pyn_base.specs.declared.class.ClassId.TheVariants.{Own}
use Rattle.py_plain.specs.Classes.{order_within, resolution_order}
use Rattle.py_scopes.specs.ModuleRows.{is_own}
use Rattle.py_module_rules.proofs.classes.has_long_chain.Given as goal

abbrev pub invariant-loop-class : goal.invariant-loop-class
invariant-loop-class l = record {
  above : l.count + count_by is_own (order_within l.tables l.left l.class) + 1 ≡ count_by is_own (resolution_order l.tables (Own l.number));
  few : l.count ≤ 20;
}

abbrev pub decreases-loop-class : goal.decreases-loop-class
decreases-loop-class l = l.left
