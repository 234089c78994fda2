use Rattle.std.proofs.Common.{◌≡◌, drop}
use Rattle.std.specs.List.{list_all}
use Rattle.std.specs.Prelude.{nat_lt}
use Rattle.test_chromosome.proofs.well_formed.are_earlier.Given as goal

abbrev pub invariant-loop-k : goal.invariant-loop-k
invariant-loop-k l = list_all (λ k. nat_lt k l.count) (drop l.k-index l.variables) ≡ list_all (λ k. nat_lt k l.count) l.variables
