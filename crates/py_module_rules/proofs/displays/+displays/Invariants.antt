use Rattle.std.proofs.Common.{◌≡◌, drop}
use Rattle.std.specs.List.{list_any}
use Rattle.py_scopes.specs.Constants.{has_display}
use Rattle.py_module_rules.specs.Displays.{operand_display, named_display}
use Rattle.py_module_rules.proofs.displays.+displays.Given as goal

abbrev pub invariant-in_any-loop-x : goal.invariant-in_any-loop-x
invariant-in_any-loop-x l = list_any has_display (drop l.x-index l.xs) ≡ list_any has_display l.xs

abbrev pub invariant-in_operands-loop-pair : goal.invariant-in_operands-loop-pair
invariant-in_operands-loop-pair l = list_any operand_display (drop l.pair-index l.pairs) ≡ list_any operand_display l.pairs

abbrev pub invariant-in_named-loop-row : goal.invariant-in_named-loop-row
invariant-in_named-loop-row l = list_any named_display (drop l.row-index l.rows) ≡ list_any named_display l.rows
