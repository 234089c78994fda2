use Rattle.std.proofs.Common.{◌≡◌, map, true}
use Rattle.py_layout.specs.Headers.{lone}
use Rattle.py_printer.specs.Style.{write}
use Rattle.module_printer.specs.Lines.{commas}
use Rattle.module_printer.proofs.Commas.{left}
use Rattle.module_printer.proofs.lists.names.Given as goal

abbrev pub invariant-loop-name : goal.invariant-loop-name
invariant-loop-name l = write l.fn.pen (commas true (map lone l.all)) ≡ write l.pen (left lone l.first l.all l.name-index)
