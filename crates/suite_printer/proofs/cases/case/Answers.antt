use Rattle.std.proofs.Common.{◌∙◌}
use Rattle.suite_printer.proofs.Tests.{case_ok}
use Rattle.suite_printer.proofs.cases.case.Goals as goal

pub returns : goal.returns
returns c =
    case_ok c.args.tables.now c.steps.result c.args.number c.args.x.now c.args.page.now c.test_line.new.page c.steps.new.page c.as_slice-asserts.result.now c.as_slice.result.now
    c.in_ok-test_line.ensures c.as_slice-asserts.ensures (c.as_slice.ensures ∙ c.in_ok-stmts.ensures) c.steps.ensures
