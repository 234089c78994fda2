use Rattle.std.proofs.Common.{◌≡◌, ◌++◌, drop}
use Rattle.py_printer.specs.Lines.{lines_text}
use Rattle.suite_text.specs.SuiteText.{cases_lines}
use Rattle.suite_printer.proofs.cases.cases.Given as goal

abbrev pub invariant-loop-x : goal.invariant-loop-x
invariant-loop-x l = record {
  text : l.fn.page.text ++ lines_text (cases_lines l.tables 0 l.all) ≡ l.page.text ++ lines_text (cases_lines l.tables l.number (drop l.x-index l.all));
  at : l.number ≡ l.x-index;
}
