use Rattle.std.proofs.Common.{◌∙◌, ap}
use Rattle.module_printer.specs.Pages.{onto}
use Rattle.suite_printer.specs.Bodies.{last_rows}
use Rattle.suite_printer.proofs.BodyRows.{one_step}
use Rattle.suite_printer.proofs.steps.steps.Goals as goal

pub loop-stmt-preserved : goal.loop-stmt-preserved
loop-stmt-preserved c =
    let program = c.args.tables.now in
    let stmt = c.in-Some.stmt.now in
    let page = c.loop-stmt.page in
    one_step program c.args.raises.now c.loop-stmt.k c.in_ok-k.k stmt c.loop-stmt.stmts.now c.in-Some.rest.now c.loop-stmt.asserts.now c.in_ok-asserts.asserts.now _ page c.step.new.page c.assertions.new.page
    c.in-Some.ensures c.loop-stmt.invariant (c.in_ok-step.ensures ∙ ap (λ class. onto page (last_rows program class stmt)) c.raised_class.ensures)
    c.in_ok-asserts.ensures.page c.in_ok-asserts.ensures.rest c.in_ok-k.ensures
