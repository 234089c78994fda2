use Rattle.std.proofs.Common.{◌≡◌, ◌++◌, take}
use Rattle.std.specs.List.{flat_map}
use Rattle.py_scopes.specs.Uses.{target_uses}
use Rattle.py_uses.proofs.statements.add_targets.Given as goal

abbrev pub invariant-loop-target : goal.invariant-loop-target
invariant-loop-target l = l.uses ≡ l.fn.uses ++ flat_map (target_uses l.line) (take l.target-index l.targets)
