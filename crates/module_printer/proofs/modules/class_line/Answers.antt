use Rattle.module_printer.proofs.PenLines.{line_ok}
use Rattle.module_printer.proofs.modules.class_line.Goals as goal

pub returns : goal.returns
returns c = line_ok c.line.result c.args.page.now c.line.new.self 0 c.new_pen-pen.result c.class.new.pen _ c.new_pen-pen.ensures c.in_ok-class.ensures c.line.ensures
