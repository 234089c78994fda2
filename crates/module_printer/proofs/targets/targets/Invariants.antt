use Rattle.std.proofs.Common.{◌≡◌, map, true}
use Rattle.py_layout.specs.Small.{target_tokens}
use Rattle.py_printer.specs.Style.{write}
use Rattle.module_printer.specs.Lines.{commas}
use Rattle.module_printer.proofs.Commas.{left}
use Rattle.module_printer.proofs.targets.targets.Given as goal

abbrev pub invariant-loop-x : goal.invariant-loop-x
invariant-loop-x l = write l.fn.pen (commas true (map target_tokens l.all)) ≡ write l.pen (left target_tokens l.first l.all l.x-index)
