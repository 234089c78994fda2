use Rattle.std.proofs.Common.{◌≡◌, drop}
use Rattle.suite_file.specs.SuiteOf.{are_pairs_bound}
use Rattle.suite_reader.proofs.lookups.are_pairs_bound.Given as goal

abbrev pub invariant-loop-pair : goal.invariant-loop-pair
invariant-loop-pair l = are_pairs_bound l.bound (drop l.pair-index l.pairs) ≡ are_pairs_bound l.bound l.pairs
