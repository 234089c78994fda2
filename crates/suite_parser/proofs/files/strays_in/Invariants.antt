use Rattle.std.proofs.Common.{◌≡◌, ◌++◌, drop}
use Rattle.std.specs.Prelude.{filter_map}
use Rattle.suite_grammar.specs.Files.{stray_in}
use Rattle.suite_parser.proofs.files.strays_in.Given as goal

abbrev pub invariant-loop-item : goal.invariant-loop-item
invariant-loop-item l = filter_map stray_in l.items ≡ l.all ++ filter_map stray_in (drop l.item-index l.items)
