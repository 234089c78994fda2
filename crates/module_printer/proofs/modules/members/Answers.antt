use Rattle.std.proofs.Common.{◌∙◌, ap, refl}
use Rattle.py_layout.specs.Modules.{member_rows}
use Rattle.py_layout.specs.Rows.{indent}
use Rattle.py_annotation_layout.specs.Annotations.{annotation_tokens}
use Rattle.module_printer.specs.declared.page.Page.{Page}
use Rattle.module_printer.specs.Modules.{member_part, member_lines}
use Rattle.module_printer.proofs.Pages.{onto_text}
use Rattle.module_printer.proofs.Parts.{one_part, all_parts}
use Rattle.module_printer.proofs.modules.members.Goals as goal

pub loop-x-init : goal.loop-x-init
loop-x-init c = refl

pub loop-x-preserved : goal.loop-x-preserved
loop-x-preserved c =
    let page = record c.loop-x.page { blanks = c.gap-page.result } in
    one_part 1 member_part member_lines c.args.all.now c.loop-x.x-index c.x-item.result c.loop-x.last c.member_part-this.result c.gap-page.result _ c.loop-x.page.text c.member.new.page.text
    c.loop-x-test.true c.x-item.is c.loop-x.invariant c.member_part-this.ensures c.gap-page.ensures
    (ap (λ (p : Page). p.text) c.in_ok-member.ensures ∙ onto_text page (member_rows annotation_tokens indent c.x-item.result))

pub returns : goal.returns
returns c = all_parts 1 member_part member_lines c.args.all.now c.loop-x.x-index c.loop-x.last _ c.loop-x.page.text c.loop-x-test.false c.loop-x.invariant
