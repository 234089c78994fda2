use Rattle.std.proofs.Common.{◌≡◌, ◌++◌, take}
use Rattle.std.specs.List.{flat_map}
use Rattle.py_scopes.specs.Constants.{has_display}
use Rattle.py_module_rules.specs.Pieces.{params_where}
use Rattle.py_module_rules.proofs.parameters.add_mutable.Given as goal

abbrev pub invariant-loop-function : goal.invariant-loop-function
invariant-loop-function l = l.lines ≡ l.fn.lines ++ flat_map (λ function. params_where has_display function.now.params) (take l.function-index l.functions)
