use Rattle.suite_check.proofs.Judged.{Judged}
use Rattle.suite_check.proofs.judge.judge_items.Given as goal

abbrev pub invariant-loop-item : goal.invariant-loop-item
invariant-loop-item l = Judged l.items l.item-index l.fn.tests l.tests l.fn.goals l.goals l.number
