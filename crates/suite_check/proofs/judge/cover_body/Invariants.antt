use Rattle.std.proofs.Common.{◌≡◌, ◌++◌, take}
use Rattle.pyn_model.specs.CallsReport.{body_lines}
use Rattle.suite_check.proofs.judge.cover_body.Given as goal

abbrev pub invariant-loop-stmt : goal.invariant-loop-stmt
invariant-loop-stmt l = l.goals ≡ l.fn.goals ++ body_lines l.test.0 (take l.stmt-index l.body)
