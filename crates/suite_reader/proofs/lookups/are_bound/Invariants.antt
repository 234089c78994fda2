use Rattle.std.proofs.Common.{◌≡◌, drop}
use Rattle.suite_file.specs.SuiteOf.{are_bound}
use Rattle.suite_reader.proofs.lookups.are_bound.Given as goal

abbrev pub invariant-loop-k : goal.invariant-loop-k
invariant-loop-k l = are_bound l.bound (drop l.k-index l.variables) ≡ are_bound l.bound l.variables
