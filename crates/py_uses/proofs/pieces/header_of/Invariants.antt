use Rattle.std.proofs.Common.{◌≡◌, ◌++◌, take}
use Rattle.std.specs.List.{flat_map}
use Rattle.py_scopes.specs.Pieces.{param_uses}
use Rattle.py_scopes.specs.Uses.{Defines, at}
use Rattle.py_uses.proofs.pieces.header_of.Given as goal

abbrev pub invariant-loop-param : goal.invariant-loop-param
invariant-loop-param l = l.uses ≡ at l.func.line (Defines l.func.name) ++ flat_map param_uses (take l.param-index l.func.params)
