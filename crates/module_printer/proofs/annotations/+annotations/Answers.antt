use Rattle.std.proofs.Common.{refl}
use Rattle.py_annotation_layout.specs.Annotations.{annotation_tokens}
use Rattle.module_printer.proofs.Commas.{one_part, all_parts}
use Rattle.module_printer.proofs.annotations.+annotations.Goals as goal

pub parts-loop-x-init : goal.parts-loop-x-init
parts-loop-x-init h c = refl

pub parts-loop-x-preserved : goal.parts-loop-x-preserved
parts-loop-x-preserved h c =
    one_part annotation_tokens c.args.all.now c.loop-x.x-index c.x-item.result c.loop-x.first _ c.loop-x.pen c.comma.new.pen c.annotation.new.pen c.loop-x-test.true c.x-item.is c.loop-x.invariant
    c.in_ok-comma.ensures c.in_ok-annotation.ensures

pub parts-returns : goal.parts-returns
parts-returns h c = all_parts annotation_tokens c.args.all.now c.loop-x.x-index c.loop-x.first _ c.loop-x.pen c.loop-x-test.false c.loop-x.invariant
