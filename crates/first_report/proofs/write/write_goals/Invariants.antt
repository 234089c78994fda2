use Rattle.std.proofs.Common.{◌≡◌, ◌++◌, drop}
use Rattle.pyn_model.specs.Report.{goals_text}
use Rattle.first_report.proofs.write.write_goals.Given as goal

abbrev pub invariant-loop-number : goal.invariant-loop-number
invariant-loop-number l = l.text ++ goals_text l.number (drop l.number l.goals) ≡ l.fn.text ++ goals_text 0 l.goals
