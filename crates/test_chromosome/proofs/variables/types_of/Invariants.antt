use Rattle.std.proofs.Common.{◌≡◌, drop}
use Rattle.suite_model.specs.WellFormed.{types_from, types_of}
use Rattle.test_chromosome.proofs.variables.types_of.Given as goal

abbrev pub invariant-loop-step : goal.invariant-loop-step
invariant-loop-step l = types_from l.tables l.types (drop l.step-index l.test.steps) ≡ types_of l.tables l.test
