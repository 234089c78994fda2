use Rattle.std.proofs.Common.{arith}
use Rattle.suite_printer.proofs.Tests.{one_case}
use Rattle.suite_printer.proofs.cases.cases.Goals as goal

pub loop-x-preserved : goal.loop-x-preserved
loop-x-preserved c = record {
  text = one_case c.args.tables.now c.args.all.now c.loop-x.x-index c.loop-x.number c.x-item.result _ c.loop-x.page.text c.case.new.page.text c.loop-x-test.true c.x-item.is c.loop-x.invariant.text c.in_ok-case.ensures;
  at = omega arith;
}
