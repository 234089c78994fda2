use Rattle.std.proofs.Common.{◌≡◌, ◌++◌, drop, map, zip}
use Rattle.py_bindings.proofs.arguments.with_plain.Given as goal

abbrev pub invariant-loop-param : goal.invariant-loop-param
invariant-loop-param l = l.bound ++ zip (map (λ param. param.name) (drop l.param-index l.params)) l.left ≡ zip (map (λ param. param.name) l.params) l.plain
