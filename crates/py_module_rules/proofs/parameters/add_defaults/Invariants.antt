use Rattle.std.proofs.Common.{◌≡◌, ◌++◌, take}
use Rattle.std.specs.List.{flat_map}
use Rattle.py_module_rules.specs.Pieces.{params_where, is_no_constant}
use Rattle.py_module_rules.proofs.parameters.add_defaults.Given as goal

abbrev pub invariant-loop-function : goal.invariant-loop-function
invariant-loop-function l = l.lines ≡ l.fn.lines ++ flat_map (λ function. params_where (is_no_constant l.names) function.now.params) (take l.function-index l.functions)
