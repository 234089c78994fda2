use Rattle.module_printer.proofs.PenLines.{line_ok}
use Rattle.module_printer.proofs.rows.word_line.Goals as goal

pub returns : goal.returns
returns c = line_ok c.line.result c.args.page.now c.line.new.self c.args.column c.new_pen-pen.result c.word.new.pen _ c.new_pen-pen.ensures c.in_ok-word.ensures c.line.ensures
