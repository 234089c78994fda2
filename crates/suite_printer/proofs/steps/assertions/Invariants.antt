use Rattle.std.proofs.Common.{◌≡◌, length}
use Rattle.module_printer.specs.Pages.{onto}
use Rattle.suite_text.specs.SuiteText.{asserts_after, asserts_later, assertion_rows}
use Rattle.suite_printer.proofs.steps.assertions.Given as goal

abbrev pub invariant-loop-x : goal.invariant-loop-x
invariant-loop-x l = record {
  page : onto l.fn.page (assertion_rows l.tables (asserts_after l.k l.asserts)) ≡ onto l.page (assertion_rows l.tables (asserts_after l.k l.left));
  rest : asserts_later l.k l.asserts ≡ asserts_later l.k l.left;
}

abbrev pub decreases-loop-x : goal.decreases-loop-x
decreases-loop-x l = length l.left
