use Rattle.std.proofs.Common.{◌≡◌, ◌++◌, [], false, drop}
use Rattle.py_scopes.specs.ModuleRows.{params_from}
use Rattle.py_module_rules.proofs.parameters.add_params.Given as goal

abbrev pub invariant-loop-param : goal.invariant-loop-param
invariant-loop-param l = l.lines ++ params_from l.names l.had (drop l.param-index l.params) ≡ l.fn.lines ++ params_from [] false l.params
