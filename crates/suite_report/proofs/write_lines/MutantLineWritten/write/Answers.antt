use Rattle.std.proofs.Common.{codes}
use Rattle.suite_report.proofs.Words.{four_words}
use Rattle.suite_report.proofs.write_lines.MutantLineWritten.write.Goals as goal

pub returns : goal.returns
returns c =
    four_words _ (codes "mutant") _ _ _ _ _ _ _ _ _ _ c.in_ok-push_ascii.ensures.ok c.in_ok-write_number.ensures c.in_ok-write_operator.ensures c.in_ok-write_number-2.ensures c.in_ok-write_verdict.ensures c.in_ok-push_ascii-2.ensures.ok
