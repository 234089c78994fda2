use Rattle.std.proofs.Common.{◌≡◌, drop, map}
use Rattle.py_meaning.specs.Methods.{is_among}
use Rattle.py_bindings.proofs.arguments.is_parameter.Given as goal

abbrev pub invariant-loop-param : goal.invariant-loop-param
invariant-loop-param l = is_among (map (λ param. param.name) (drop l.param-index l.params)) l.name ≡ is_among (map (λ param. param.name) l.params) l.name
