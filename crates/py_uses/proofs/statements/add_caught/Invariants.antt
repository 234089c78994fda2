use Rattle.std.proofs.Common.{◌≡◌, ◌++◌, take}
use Rattle.std.specs.List.{flat_map}
use Rattle.py_scopes.specs.Uses.{Catches, at}
use Rattle.py_uses.proofs.statements.add_caught.Given as goal

abbrev pub invariant-loop-name : goal.invariant-loop-name
invariant-loop-name l = l.uses ≡ l.fn.uses ++ flat_map (λ name. at l.line (Catches name)) (take l.name-index l.all)
