use Rattle.std.proofs.Common.{◌≡◌, take, map}
use Rattle.suite_model.specs.Statements.{variable_read}
use Rattle.test_chromosome.proofs.syntax.pair_reads.Given as goal

abbrev pub invariant-loop-pair : goal.invariant-loop-pair
invariant-loop-pair l = l.reads ≡ map (λ pair. (variable_read pair.0, variable_read pair.1)) (take l.pair-index l.pairs)
