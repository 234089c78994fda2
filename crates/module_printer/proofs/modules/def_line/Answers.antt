use Rattle.std.proofs.Common.{◌∙◌, ap}
use Rattle.py_grammar.specs.declared.form.Header.TheVariants as h
use Rattle.py_layout.specs.Headers.{header_tokens}
use Rattle.py_printer.specs.Style.{write}
use Rattle.py_annotation_layout.specs.Annotations.{annotation_tokens}
use Rattle.module_printer.proofs.PenLines.{line_ok}
use Rattle.module_printer.proofs.modules.def_line.Goals as goal

pub returns : goal.returns
returns c =
    let x = c.args.x.now in
    let pen = c.new_pen-pen.result in
    let written = c.in_ok-def.ensures ∙ ap (λ params. write pen (header_tokens annotation_tokens (h.Def x.name params x.returns))) c.as_slice.ensures in
    line_ok c.line.result c.args.page.now c.line.new.self c.args.column pen c.def.new.pen (header_tokens annotation_tokens (h.Def x.name x.params x.returns)) c.new_pen-pen.ensures written c.line.ensures
