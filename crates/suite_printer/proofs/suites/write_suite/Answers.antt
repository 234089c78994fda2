use Rattle.suite_printer.proofs.Tests.{suite_ok}
use Rattle.suite_printer.proofs.suites.write_suite.Goals as goal

pub returns : goal.returns
returns c =
    suite_ok c.args.tables.now c.args.suite.now c.new-page.result c.imports.new.page c.cases.new.page c.as_slice.result.now
    c.new-page.ensures c.in_ok-imports.ensures c.as_slice.ensures c.in_ok-cases.ensures
