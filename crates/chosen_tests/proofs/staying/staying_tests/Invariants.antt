use Rattle.std.proofs.Common.{length}
use Rattle.chosen_tests.specs.Chosen.{gains_kept}
use Rattle.chosen_tests.proofs.SecondPass.{Looked}
use Rattle.chosen_tests.proofs.staying.staying_tests.Given as goal

abbrev pub invariant-loop-test : goal.invariant-loop-test
invariant-loop-test l = Looked gains_kept l.fn.found.tests l.tests l.stay.items l.counts

abbrev pub decreases-loop-test : goal.decreases-loop-test
decreases-loop-test l = length l.tests
