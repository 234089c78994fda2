use Rattle.std.proofs.Common.{sym, ◌∙◌}
use Rattle.suite_report.proofs.Titles.{title_none, title_some}
use Rattle.suite_report.proofs.head_lines.title_of.Goals as goal

pub returns-then-not-is : goal.returns-then-not-is
returns-then-not-is c = title_none _ (sym c.is.ensures ∙ c.if-not-is.true)

pub returns : goal.returns
returns c = title_some _ (sym c.is.ensures ∙ c.if-not-is.false)
