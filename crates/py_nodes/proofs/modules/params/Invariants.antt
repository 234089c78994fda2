use Rattle.std.proofs.Common.{◌≡◌, map, take}
use Rattle.py_nodes.specs.Numbers.{param}
use Rattle.py_nodes.proofs.modules.params.Given as goal

abbrev pub invariant-loop-one : goal.invariant-loop-one
invariant-loop-one l = l.done ≡ map param (take l.one-index l.all)
