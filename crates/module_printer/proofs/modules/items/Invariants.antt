use Rattle.std.proofs.Common.{◌≡◌, ◌++◌}
use Rattle.py_printer.specs.Lines.{lines_text}
use Rattle.module_printer.specs.Modules.{item_part, item_lines, items_lines}
use Rattle.module_printer.proofs.Parts.{left}
use Rattle.module_printer.proofs.modules.items.Given as goal

abbrev pub invariant-loop-x : goal.invariant-loop-x
invariant-loop-x l = l.fn.page.text ++ lines_text (items_lines l.all) ≡ l.page.text ++ left 2 item_part item_lines l.last l.all l.x-index
