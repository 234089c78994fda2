use Rattle.std.proofs.Common.{◌∙◌, sym, ap}
use Rattle.std.specs.List.{flat_map}
use Rattle.py_scopes.specs.Refusals.{least}
use Rattle.py_name_rules.specs.Earliest.{earlier_of, fault_at}
use Rattle.py_name_rules.proofs.Earlier.{one_more, all_done, lines_are}
use Rattle.py_name_rules.proofs.earliest.least_in.Goals as goal

pub loop-used-preserved : goal.loop-used-preserved
loop-used-preserved g c =
    let faults = fault_at (g.R.Rule.breaks c.args.rule.now) c.args.site.now.place in
    one_more faults c.uses-all.result.now c.loop-used.used-index _ _ _ _ c.loop-used-test.true c.used-item.is c.loop-used.invariant
    (rw (c.is_broken-is_fault.ensures, c.scope-scope.ensures, c.use_.ensures, c.line.ensures) at c.with_fault-least.ensures)

pub returns : goal.returns
returns g c =
    let breaks = g.R.Rule.breaks c.args.rule.now in
    let site = c.args.site.now in
    let faults = fault_at breaks site.place in
    all_done faults c.uses-all.result.now c.loop-used.used-index _ _ c.loop-used-test.false c.loop-used.invariant
    ∙ ap (λ uses. earlier_of c.args.found (least (flat_map faults uses))) c.uses-all.ensures
    ∙ ap (λ lines. earlier_of c.args.found (least lines)) (sym (lines_are breaks site))
