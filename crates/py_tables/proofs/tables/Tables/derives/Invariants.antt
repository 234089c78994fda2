use Rattle.std.proofs.Common.{◌≡◌}
use Rattle.std.specs.List.{list_any}
use Rattle.py_meaning.specs.Values.{same_class}
use Rattle.py_plain.specs.Classes.{order_within, derives}
use Rattle.py_tables.proofs.tables.Tables.derives.Given as goal

abbrev pub invariant-loop-class : goal.invariant-loop-class
invariant-loop-class l = list_any (same_class l.above) (order_within l.self l.left l.class) ≡ derives l.self l.fn.class l.above

abbrev pub decreases-loop-class : goal.decreases-loop-class
decreases-loop-class l = l.left
