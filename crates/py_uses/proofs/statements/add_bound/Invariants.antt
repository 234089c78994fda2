use Rattle.std.proofs.Common.{◌≡◌, ◌++◌, take}
use Rattle.py_scopes.specs.Uses.{binds}
use Rattle.py_uses.proofs.statements.add_bound.Given as goal

abbrev pub invariant-loop-name : goal.invariant-loop-name
invariant-loop-name l = l.uses ≡ l.fn.uses ++ binds l.line (take l.name-index l.names)
