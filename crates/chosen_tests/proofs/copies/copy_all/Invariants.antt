use Rattle.std.proofs.Common.{◌≡◌, take}
use Rattle.chosen_tests.proofs.copies.copy_all.Given as goal

abbrev pub invariant-loop-step : goal.invariant-loop-step
invariant-loop-step l = l.all ≡ take l.step-index l.steps
