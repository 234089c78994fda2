use Rattle.std.proofs.Common.{◌≡◌, drop, map}
use Rattle.suite_file.specs.Spelled.{all_of, shown_in}
use Rattle.suite_reader.specs.Shown.{shown_pair}
use Rattle.suite_reader.proofs.Collected.{after_front}
use Rattle.suite_reader.proofs.displays.+displays.Given as goal

abbrev pub invariant-all_shown-loop-e : goal.invariant-all_shown-loop-e
invariant-all_shown-loop-e l = after_front l.parts (all_of (map shown_in (drop l.e-index l.es))) ≡ all_of (map shown_in l.es)

abbrev pub invariant-all_pairs_shown-loop-e : goal.invariant-all_pairs_shown-loop-e
invariant-all_pairs_shown-loop-e l = after_front l.pairs (all_of (map shown_pair (drop l.e-index l.es))) ≡ all_of (map shown_pair l.es)
