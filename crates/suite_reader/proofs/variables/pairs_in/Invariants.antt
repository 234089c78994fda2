use Rattle.std.proofs.Common.{◌≡◌, drop}
use Rattle.suite_file.specs.Spelled.{pairs_in}
use Rattle.suite_reader.proofs.Collected.{after_front}
use Rattle.suite_reader.proofs.variables.pairs_in.Given as goal

abbrev pub invariant-loop-e : goal.invariant-loop-e
invariant-loop-e l = after_front l.pairs (pairs_in (drop l.e-index l.es)) ≡ pairs_in l.es
