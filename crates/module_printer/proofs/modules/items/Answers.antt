use Rattle.std.proofs.Common.{refl}
use Rattle.module_printer.specs.Modules.{item_part, item_lines}
use Rattle.module_printer.proofs.Parts.{one_part, all_parts}
use Rattle.module_printer.proofs.modules.items.Goals as goal

pub loop-x-init : goal.loop-x-init
loop-x-init c = refl

pub loop-x-preserved : goal.loop-x-preserved
loop-x-preserved c =
    one_part 2 item_part item_lines c.args.all.now c.loop-x.x-index c.x-item.result c.loop-x.last c.item_part-this.result c.gap-page.result _ c.loop-x.page.text c.item.new.page.text
    c.loop-x-test.true c.x-item.is c.loop-x.invariant c.item_part-this.ensures c.gap-page.ensures c.in_ok-item.ensures

pub returns : goal.returns
returns c = all_parts 2 item_part item_lines c.args.all.now c.loop-x.x-index c.loop-x.last _ c.loop-x.page.text c.loop-x-test.false c.loop-x.invariant
