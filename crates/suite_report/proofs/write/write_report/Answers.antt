use Rattle.report_model.specs.Lines.{test_line, goal_line, mutant_line}
use Rattle.suite_report.proofs.Sequences.{lines_of, written}
use Rattle.suite_report.proofs.write.write_report.Goals as goal

pub returns : goal.returns
returns c =
    written c.args.report.now _ _ _ _ _ _ c.new-text.ensures c.in_ok-write_head.ensures
    (lines_of test_line _ _ _ _ c.in_ok-write_series.ensures c.as_slice.ensures)
    (lines_of goal_line _ _ _ _ c.in_ok-write_series-2.ensures c.as_slice-2.ensures)
    (lines_of mutant_line _ _ _ _ c.in_ok-write_series-3.ensures c.as_slice-3.ensures)
    c.in_ok-write_end.ensures
