use Rattle.std.proofs.Common.{◌≡◌, take}
use Rattle.py_uses.specs.Blocks.{bound_params}
use Rattle.py_uses.proofs.pieces.frame_of.Given as goal

abbrev pub invariant-loop-param : goal.invariant-loop-param
invariant-loop-param l = l.uses ≡ bound_params (take l.param-index l.func.params)
