use Rattle.std.proofs.Common.{codes}
use Rattle.suite_report.proofs.Words.{four_words}
use Rattle.suite_report.proofs.write_lines.GoalLineWritten.write.Goals as goal

pub returns : goal.returns
returns c =
    four_words _ (codes "goal") _ _ _ _ _ _ _ _ _ _ c.in_ok-push_ascii.ensures.ok c.in_ok-write_number.ensures c.in_ok-write_kind.ensures c.in_ok-write_number-2.ensures c.in_ok-write_cover.ensures c.in_ok-push_ascii-2.ensures.ok
