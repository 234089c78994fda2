use Rattle.std.proofs.Common.{◌≡◌, take}
use Rattle.std.specs.List.{flat_map}
use Rattle.py_module_rules.specs.Pieces.{params_of}
use Rattle.py_module_rules.proofs.parameters.parameters.Given as goal

abbrev pub invariant-loop-function : goal.invariant-loop-function
invariant-loop-function l = l.lines ≡ flat_map (λ function. params_of function.now) (take l.function-index l.all)
