use Rattle.std.proofs.Common.{◌≡◌}
use Rattle.py_plain.specs.Classes.{order_within, member_along, class_member}
use Rattle.py_lookups.proofs.members.class_member.Given as goal

abbrev pub invariant-loop-class : goal.invariant-loop-class
invariant-loop-class l = member_along l.tables l.space (order_within l.tables l.left l.class) l.name ≡ class_member l.tables l.space l.fn.class l.name

abbrev pub decreases-loop-class : goal.decreases-loop-class
decreases-loop-class l = l.left
