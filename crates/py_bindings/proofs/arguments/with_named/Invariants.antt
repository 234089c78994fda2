use Rattle.std.proofs.Common.{◌≡◌, drop, map}
use Rattle.py_plain.specs.Calls.{with_named}
use Rattle.py_bindings.proofs.arguments.with_named.Given as goal

abbrev pub invariant-loop-row : goal.invariant-loop-row
invariant-loop-row l = with_named (map (λ param. param.name) l.params) l.bound (drop l.row-index l.named) ≡ with_named (map (λ param. param.name) l.params) l.fn.bound l.named
