use Rattle.std.proofs.Common.{◌≡◌, take, map}
use Rattle.suite_model.specs.Callables.{param_type}
use Rattle.test_chromosome.proofs.signature.types_of_params.Given as goal

abbrev pub invariant-loop-param : goal.invariant-loop-param
invariant-loop-param l = l.types ≡ map (param_type l.tables) (take l.param-index l.params)
