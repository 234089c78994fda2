use Rattle.py_scopes.specs.Pieces.{lines_in}
use Rattle.py_name_rules.proofs.Earlier.{one_more, all_done}
use Rattle.py_name_rules.proofs.earliest.least_line.Goals as goal

pub loop-site-preserved : goal.loop-site-preserved
loop-site-preserved g c = one_more (lines_in (g.R.Rule.breaks c.args.rule.now)) c.args.sites.now c.loop-site.site-index _ _ _ _ c.loop-site-test.true c.site-item.is c.loop-site.invariant c.least_in-least.ensures

pub returns : goal.returns
returns g c = all_done (lines_in (g.R.Rule.breaks c.args.rule.now)) c.args.sites.now c.loop-site.site-index _ _ c.loop-site-test.false c.loop-site.invariant
