use Rattle.pyn_bench.proofs.ReportLemmas.{all_counted}
use Rattle.pyn_bench.proofs.reports.token_count.Goals as goal

pub returns : goal.returns
returns c = all_counted c.loop-line.rest.now c.loop-line.count _ c.in_default.ensures.cases c.loop-line.invariant.small c.loop-line.invariant.value
