use Rattle.std.proofs.Common.{sym, ◌∙◌}
use Rattle.test_chromosome.specs.Calls.{class_has}
use Rattle.test_chromosome.proofs.Orders.{order_step}
use Rattle.test_chromosome.proofs.well_formed.class_answers.Goals as goal

pub loop-class-preserved : goal.loop-class-preserved
loop-class-preserved c =
    let other = rw c.in-Own.is at (sym c.class_has.ensures ∙ c.if-class_has.false) in
    rw (c.base-class.ensures, c.in-Own.is) (order_step c.args.tables.now c.loop-class.left c.in-Own.field-0 (class_has c.args.tables.now c.args.name.now) c.if-left-eq0.false other) ∙ rw c.in-Own.is at c.loop-class.invariant
