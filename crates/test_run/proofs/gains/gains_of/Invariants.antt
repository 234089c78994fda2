use Rattle.std.proofs.Common.{◌≡◌, ◌++◌, drop}
use Rattle.test_run.specs.Gains.{marked_from}
use Rattle.test_run.proofs.gains.gains_of.Given as goal

abbrev pub invariant-loop-number : goal.invariant-loop-number
invariant-loop-number l = l.gains ++ marked_from l.number l.marks (drop l.number l.goals) ≡ marked_from 0 l.marks l.goals
