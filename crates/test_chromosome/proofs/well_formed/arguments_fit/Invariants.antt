use Rattle.std.proofs.Common.{◌≡◌, length}
use Rattle.suite_model.specs.WellFormed.{arguments_fit}
use Rattle.test_chromosome.proofs.well_formed.arguments_fit.Given as goal

abbrev pub invariant-loop-k : goal.invariant-loop-k
invariant-loop-k l = arguments_fit l.tables l.types l.args l.takes ≡ arguments_fit l.tables l.types l.fn.args l.fn.takes

abbrev pub decreases-loop-k : goal.decreases-loop-k
decreases-loop-k l = length l.args
