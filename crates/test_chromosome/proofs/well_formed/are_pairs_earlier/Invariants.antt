use Rattle.std.proofs.Common.{◌≡◌, drop}
use Rattle.std.specs.List.{list_all}
use Rattle.std.specs.Prelude.{nat_lt, ◌&&◌}
use Rattle.test_chromosome.proofs.well_formed.are_pairs_earlier.Given as goal

abbrev pub invariant-loop-pair : goal.invariant-loop-pair
invariant-loop-pair l = list_all (λ pair. nat_lt pair.0 l.count && nat_lt pair.1 l.count) (drop l.pair-index l.pairs) ≡ list_all (λ pair. nat_lt pair.0 l.count && nat_lt pair.1 l.count) l.pairs
