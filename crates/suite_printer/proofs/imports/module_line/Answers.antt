use Rattle.suite_printer.proofs.Pages.{line_ok}
use Rattle.suite_printer.proofs.imports.module_line.Goals as goal

pub returns : goal.returns
returns c = line_ok c.line.result c.args.page.now c.line.new.self 0 c.new_pen-pen.result c.module_0.new.pen _ c.new_pen-pen.ensures c.in_ok-module_0.ensures c.line.ensures
