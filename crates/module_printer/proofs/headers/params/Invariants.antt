use Rattle.std.proofs.Common.{◌≡◌, map, true}
use Rattle.py_layout.specs.Headers.{param_tokens}
use Rattle.py_annotation_layout.specs.Annotations.{annotation_tokens}
use Rattle.py_printer.specs.Style.{write}
use Rattle.module_printer.specs.Lines.{commas}
use Rattle.module_printer.proofs.Commas.{left}
use Rattle.module_printer.proofs.headers.params.Given as goal

abbrev pub invariant-loop-x : goal.invariant-loop-x
invariant-loop-x l = write l.fn.pen (commas true (map (param_tokens annotation_tokens) l.all)) ≡ write l.pen (left (param_tokens annotation_tokens) l.first l.all l.x-index)
