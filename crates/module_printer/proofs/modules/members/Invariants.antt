use Rattle.std.proofs.Common.{◌≡◌, ◌++◌}
use Rattle.py_printer.specs.Lines.{lines_text}
use Rattle.module_printer.specs.Modules.{member_part, member_lines, members_lines}
use Rattle.module_printer.proofs.Parts.{left}
use Rattle.module_printer.proofs.modules.members.Given as goal

abbrev pub invariant-loop-x : goal.invariant-loop-x
invariant-loop-x l = l.fn.page.text ++ lines_text (members_lines l.all) ≡ l.page.text ++ left 1 member_part member_lines l.last l.all l.x-index
