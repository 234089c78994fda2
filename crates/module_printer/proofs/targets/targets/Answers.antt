use Rattle.std.proofs.Common.{refl}
use Rattle.py_layout.specs.Small.{target_tokens}
use Rattle.module_printer.proofs.Commas.{one_part, all_parts}
use Rattle.module_printer.proofs.targets.targets.Goals as goal

pub loop-x-init : goal.loop-x-init
loop-x-init c = refl

pub loop-x-preserved : goal.loop-x-preserved
loop-x-preserved c =
    one_part target_tokens c.args.all.now c.loop-x.x-index c.x-item.result c.loop-x.first _ c.loop-x.pen c.comma.new.pen c.target.new.pen c.loop-x-test.true c.x-item.is c.loop-x.invariant
    c.in_ok-comma.ensures c.in_ok-target.ensures

pub returns : goal.returns
returns c = all_parts target_tokens c.args.all.now c.loop-x.x-index c.loop-x.first _ c.loop-x.pen c.loop-x-test.false c.loop-x.invariant
