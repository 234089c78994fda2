use Rattle.std.proofs.Common.{◌≡◌}
use Rattle.py_plain.specs.Classes.{order_within, method_along, method_named}
use Rattle.py_tables.proofs.tables.Tables.method_named.Given as goal

abbrev pub invariant-loop-class : goal.invariant-loop-class
invariant-loop-class l = method_along l.self (order_within l.self l.left l.class) l.name ≡ method_named l.self l.fn.class l.name

abbrev pub decreases-loop-class : goal.decreases-loop-class
decreases-loop-class l = l.left
