use Rattle.std.proofs.Common.{sym, ◌∙◌}
use Rattle.suite_report.proofs.Places.{end_refused}
use Rattle.suite_report.proofs.read.end_at.Goals as goal

pub returns-then-not-is_empty : goal.returns-then-not-is_empty
returns-then-not-is_empty c = end_refused _ _ _ _ _ _ _ c.in_ok-at.ensures c.in_ok-at-2.ensures c.in_ok-minimal.ensures (sym c.is_empty.ensures ∙ c.if-not-is_empty.true)
