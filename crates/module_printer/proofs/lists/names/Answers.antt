use Rattle.std.proofs.Common.{refl}
use Rattle.py_layout.specs.Headers.{lone}
use Rattle.module_printer.proofs.Commas.{one_part, all_parts}
use Rattle.module_printer.proofs.lists.names.Goals as goal

pub loop-name-init : goal.loop-name-init
loop-name-init c = refl

pub loop-name-preserved : goal.loop-name-preserved
loop-name-preserved c =
    one_part lone c.args.all.now c.loop-name.name-index c.name-item.result c.loop-name.first _ c.loop-name.pen c.comma.new.pen c.name.new.self c.loop-name-test.true c.name-item.is c.loop-name.invariant
    c.in_ok-comma.ensures c.in_ok-name.ensures

pub returns : goal.returns
returns c = all_parts lone c.args.all.now c.loop-name.name-index c.loop-name.first _ c.loop-name.pen c.loop-name-test.false c.loop-name.invariant
