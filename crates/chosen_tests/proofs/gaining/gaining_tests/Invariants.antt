use Rattle.std.proofs.Common.{refl}
use Rattle.chosen_tests.specs.Chosen.{can_be_written, chosen_as, gains, gains_kept}
use Rattle.chosen_tests.proofs.FirstPass.{Passed}
use Rattle.chosen_tests.proofs.gaining.gaining_tests.Given as goal

abbrev pub invariant-loop-test : goal.invariant-loop-test
invariant-loop-test l = Passed (gains l.tree l.limit) (can_be_written l.tree l.limit) gains_kept (chosen_as l.tree l.limit) (λ test. refl) l.tests l.test-index l.all l.counts
