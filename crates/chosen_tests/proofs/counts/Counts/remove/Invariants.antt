use Rattle.std.proofs.Common.{take}
use Rattle.chosen_tests.specs.Counting.{Rose}
use Rattle.chosen_tests.proofs.counts.Counts.remove.Given as goal

abbrev pub invariant-loop-number : goal.invariant-loop-number
invariant-loop-number l = Rose l.self l.fn.self (take l.number-index l.numbers)
