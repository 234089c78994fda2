use Rattle.std.proofs.Common.{◌≡◌, ◌∙◌, ◌++◌, sym, ap, subst}
use Rattle.std.specs.Prelude.{OnOk}
use Rattle.py_syntax.specs.declared.module.Item.TheVariants as item
use Rattle.py_layout.specs.Modules.{item_rows}
use Rattle.py_printer.specs.Lines.{lines_text}
use Rattle.py_annotation_layout.specs.Annotations.{annotation_tokens}
use Rattle.module_printer.specs.Modules.{item_lines}
use Rattle.module_printer.proofs.Parts.{text_ok}
use Rattle.module_printer.proofs.modules.item.Goals as goal

pub returns-in-Func : goal.returns-in-Func
returns-in-Func c =
    let page = c.args.page.now in
    subst (λ x. OnOk c.function.result (c.function.new.page.text ≡ page.text ++ lines_text (item_lines page.blanks x))) (sym c.in-Func.is)
    (text_ok c.function.result page c.function.new.page (item_rows annotation_tokens 0 (item.Func c.in-Func.x)) c.function.ensures)

pub returns-in-Import : goal.returns-in-Import
returns-in-Import c =
    let page = c.args.page.now in
    let line = c.in-Import._line in
    subst (λ x. OnOk c.import_line.result (c.import_line.new.page.text ≡ page.text ++ lines_text (item_lines page.blanks x))) (ap (item.Import line) c.as_slice.ensures ∙ sym c.in-Import.is)
    (text_ok c.import_line.result page c.import_line.new.page (item_rows annotation_tokens 0 (item.Import line c.as_slice.result.now)) c.import_line.ensures)
