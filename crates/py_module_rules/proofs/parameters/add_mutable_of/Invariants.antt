use Rattle.std.proofs.Common.{◌≡◌, ◌++◌, drop}
use Rattle.py_scopes.specs.Constants.{has_display}
use Rattle.py_module_rules.specs.Pieces.{params_where}
use Rattle.py_module_rules.proofs.parameters.add_mutable_of.Given as goal

abbrev pub invariant-loop-param : goal.invariant-loop-param
invariant-loop-param l = l.lines ++ params_where has_display (drop l.param-index l.params) ≡ l.fn.lines ++ params_where has_display l.params
