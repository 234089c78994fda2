use Rattle.std.proofs.Common.{◌≡◌, ◌++◌, length, reverse}
use Rattle.std.specs.Prelude.{filter_map}
use Rattle.suite_grammar.specs.Files.{test_in}
use Rattle.suite_parser.proofs.files.tests_in.Given as goal

abbrev pub invariant-loop-item : goal.invariant-loop-item
invariant-loop-item l = filter_map test_in l.fn.items ≡ l.all ++ filter_map test_in (reverse l.rest)

abbrev pub decreases-loop-item : goal.decreases-loop-item
decreases-loop-item l = length l.rest
