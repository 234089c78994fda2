use Rattle.std.proofs.Common.{◌≡◌, take, map}
use Rattle.suite_model.specs.Statements.{variable_read}
use Rattle.test_chromosome.proofs.syntax.variable_reads.Given as goal

abbrev pub invariant-loop-k : goal.invariant-loop-k
invariant-loop-k l = l.reads ≡ map variable_read (take l.k-index l.numbers)
