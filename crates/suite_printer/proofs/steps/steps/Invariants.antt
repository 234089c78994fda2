use Rattle.std.proofs.Common.{◌≡◌, length}
use Rattle.module_printer.specs.Pages.{onto}
use Rattle.suite_printer.specs.Bodies.{body_rows}
use Rattle.suite_printer.proofs.steps.steps.Given as goal

abbrev pub invariant-loop-stmt : goal.invariant-loop-stmt
invariant-loop-stmt l = onto l.fn.page (body_rows l.tables l.raises 0 l.fn.asserts l.fn.stmts) ≡ onto l.page (body_rows l.tables l.raises l.k l.asserts l.stmts)

abbrev pub decreases-loop-stmt : goal.decreases-loop-stmt
decreases-loop-stmt l = length l.stmts
