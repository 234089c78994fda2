use Rattle.std.proofs.Common.{codes}
use Rattle.suite_report.proofs.Words.{two_words}
use Rattle.suite_report.proofs.write_lines.write_stopped.Goals as goal

pub returns : goal.returns
returns c = two_words _ (codes "stopped line") _ _ _ _ _ c.in_ok-push_ascii.ensures.ok c.in_ok-write_number.ensures c.in_ok-write_cause.ensures
