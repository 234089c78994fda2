use Rattle.std.proofs.Common.{◌≡◌, [], drop}
use Rattle.test_chromosome.specs.Calls.{steps_are_fit}
use Rattle.test_chromosome.proofs.well_formed.are_steps_fit.Given as goal

abbrev pub invariant-loop-step : goal.invariant-loop-step
invariant-loop-step l = steps_are_fit l.tables l.types (drop l.step-index l.test.steps) ≡ steps_are_fit l.tables [] l.test.steps
