use Rattle.std.proofs.Common.{◌≡◌, map, true}
use Rattle.py_printer.specs.Style.{write}
use Rattle.py_annotation_layout.specs.Annotations.{annotation_tokens}
use Rattle.module_printer.specs.Lines.{commas}
use Rattle.module_printer.proofs.Commas.{left}
use Rattle.module_printer.proofs.annotations.+annotations.Given as goal

abbrev pub invariant-parts-loop-x : goal.invariant-parts-loop-x
invariant-parts-loop-x l = write l.fn.pen (commas true (map annotation_tokens l.all)) ≡ write l.pen (left annotation_tokens l.first l.all l.x-index)
