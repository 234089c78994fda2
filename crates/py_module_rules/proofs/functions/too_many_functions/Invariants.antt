use Rattle.std.proofs.Common.{◌≡◌, take, map}
use Rattle.py_module_rules.specs.Pieces.{line_of}
use Rattle.py_module_rules.proofs.functions.too_many_functions.Given as goal

abbrev pub invariant-loop-function : goal.invariant-loop-function
invariant-loop-function l = l.lines ≡ map (λ function. line_of function.now) (take l.function-index l.rest)
