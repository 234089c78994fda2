use Rattle.std.proofs.Common.{◌≡◌, ◌++◌, drop}
use Rattle.py_module_rules.specs.Pieces.{params_where, is_no_constant}
use Rattle.py_module_rules.proofs.parameters.add_defaults_of.Given as goal

abbrev pub invariant-loop-param : goal.invariant-loop-param
invariant-loop-param l = l.lines ++ params_where (is_no_constant l.names) (drop l.param-index l.params) ≡ l.fn.lines ++ params_where (is_no_constant l.names) l.params
