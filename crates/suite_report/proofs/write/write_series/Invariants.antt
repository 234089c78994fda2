use Rattle.std.proofs.Common.{◌≡◌, ◌++◌, drop}
use Rattle.report_model.specs.ReportText.{numbered, text_of_lines}
use Rattle.suite_report.proofs.write.write_series.Given as goal

-- what is written and the lines of what is left are all of the lines
abbrev pub invariant-loop-number : goal.invariant-loop-number
invariant-loop-number g l = l.text ++ text_of_lines (numbered g.T.Written.line l.number (drop l.number l.items)) ≡ l.fn.text ++ text_of_lines (numbered g.T.Written.line 0 l.items)
