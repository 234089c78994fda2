use Rattle.std.proofs.Common.{◌≡◌, take, map}
use Rattle.py_name_rules.proofs.bound.names_of_params.Given as goal

abbrev pub invariant-loop-param : goal.invariant-loop-param
invariant-loop-param l = l.names ≡ map (λ param. param.name) (take l.param-index l.func.params)
