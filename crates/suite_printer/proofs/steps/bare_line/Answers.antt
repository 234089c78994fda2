use Rattle.py_language.specs.TreesPlaces.{Listed}
use Rattle.py_printing.specs.Expressions.{expr_tokens}
use Rattle.suite_printer.proofs.Pages.{line_ok}
use Rattle.suite_printer.proofs.steps.bare_line.Goals as goal

pub returns : goal.returns
returns c = line_ok c.line.result c.args.page.now c.line.new.self c.args.column c.new_pen-pen.result c.listed.new.self (expr_tokens Listed c.args.x.now) c.new_pen-pen.ensures c.in_ok-listed.ensures c.line.ensures
