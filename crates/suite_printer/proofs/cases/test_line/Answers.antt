use Rattle.std.proofs.Common.{◌∙◌, ap, []}
use Rattle.std.specs.Prelude.{None}
use Rattle.py_grammar.specs.declared.form.Header.TheVariants as h
use Rattle.py_layout.specs.Headers.{header_tokens}
use Rattle.py_printer.specs.Style.{write}
use Rattle.py_annotation_layout.specs.Annotations.{annotation_tokens}
use Rattle.suite_text.specs.SuiteText.{test_name}
use Rattle.suite_printer.proofs.Pages.{line_ok}
use Rattle.suite_printer.proofs.cases.test_line.Goals as goal

pub returns : goal.returns
returns c =
    let pen = c.new_pen-pen.result in
    let written = c.in_ok-def.ensures ∙ ap (λ name. write pen (header_tokens annotation_tokens (h.Def name [] None))) c.in_ok-name.ensures in
    line_ok c.line.result c.args.page.now c.line.new.self 0 pen c.def.new.pen (header_tokens annotation_tokens (h.Def (test_name c.args.number) [] None)) c.new_pen-pen.ensures written c.line.ensures
