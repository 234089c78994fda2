use Rattle.std.proofs.Common.{◌≡◌, drop, map}
use Rattle.py_plain.specs.Calls.{with_defaults}
use Rattle.py_bindings.proofs.arguments.with_defaults.Given as goal

abbrev pub invariant-loop-param : goal.invariant-loop-param
invariant-loop-param l = with_defaults l.defaults l.bound (map (λ param. param.name) (drop l.param-index l.params)) ≡ with_defaults l.defaults l.fn.bound (map (λ param. param.name) l.params)
