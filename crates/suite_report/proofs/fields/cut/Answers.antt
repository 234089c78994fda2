use Rattle.suite_report.proofs.Cuts.{cut_none, cut_some}
use Rattle.suite_report.proofs.fields.cut.Goals as goal

pub returns-in-None : goal.returns-in-None
returns-in-None c = cut_none _ _ _ _ _ c.bytes_before.ensures.value c.split_at.ensures.front c.split_at.ensures.back c.in-None.ensures

pub returns-in-Some : goal.returns-in-Some
returns-in-Some c = cut_some _ _ _ _ _ _ _ c.bytes_before.ensures.value c.split_at.ensures.front c.split_at.ensures.back c.in-Some.ensures
