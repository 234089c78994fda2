use Rattle.std.proofs.Common.{◌≡◌}
use Rattle.std.specs.List.{list_any}
use Rattle.py_plain.specs.Classes.{order_within, resolution_order}
use Rattle.test_chromosome.specs.Calls.{class_has}
use Rattle.test_chromosome.proofs.well_formed.class_answers.Given as goal

abbrev pub invariant-loop-class : goal.invariant-loop-class
invariant-loop-class l = list_any (class_has l.tables l.name) (order_within l.tables l.left l.class) ≡ list_any (class_has l.tables l.name) (resolution_order l.tables l.fn.class)

abbrev pub decreases-loop-class : goal.decreases-loop-class
decreases-loop-class l = l.left
