use Rattle.std.proofs.Common.{sym, ◌∙◌}
use Rattle.py_tables.proofs.Orders.{order_step}
use Rattle.py_tables.proofs.tables.Tables.derives.Goals as goal

pub loop-class-preserved : goal.loop-class-preserved
loop-class-preserved c =
    let other = rw c.in-Own.is at (sym c.is_same_class.ensures ∙ c.if-is_same_class.false) in
    rw (c.base-class.ensures, c.in-Own.is) (order_step c.args.self.now c.loop-class.left c.in-Own.field-0 c.args.above c.if-left-eq0.false other) ∙ rw c.in-Own.is at c.loop-class.invariant
