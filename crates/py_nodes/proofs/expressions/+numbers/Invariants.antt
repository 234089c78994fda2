use Rattle.std.proofs.Common.{◌≡◌, ◌≤◌, length, take, drop, map}
use Rattle.py_language.specs.TreesNumbers.{in_order}
use Rattle.py_nodes.specs.Expressions.{expr_on}
use Rattle.py_nodes.specs.Code.{pair_of, compared_of, named_of, added}
use Rattle.py_nodes.proofs.Steps.{prepend, left}
use Rattle.py_nodes.proofs.Arguments.{standing_of, prepend_args}
use Rattle.py_nodes.proofs.expressions.+numbers.Given as goal

abbrev pub invariant-in_order-loop-x : goal.invariant-in_order-loop-x
invariant-in_order-loop-x l =
    in_order (map (expr_on l.place.counted l.place.line) l.xs) l.number ≡ prepend l.all (left (expr_on l.place.counted l.place.line) l.xs l.x-index l.next)

abbrev pub invariant-pairs_in_order-loop-pair : goal.invariant-pairs_in_order-loop-pair
invariant-pairs_in_order-loop-pair l =
    in_order (map (pair_of l.place.counted l.place.line) l.pairs) l.number ≡ prepend l.all (left (pair_of l.place.counted l.place.line) l.pairs l.pair-index l.next)

abbrev pub invariant-compared_in_order-loop-pair : goal.invariant-compared_in_order-loop-pair
invariant-compared_in_order-loop-pair l =
    in_order (map (compared_of l.place.counted l.place.line) l.pairs) l.number ≡ prepend l.all (left (compared_of l.place.counted l.place.line) l.pairs l.pair-index l.next)

abbrev pub invariant-push_named-loop-i : goal.invariant-push_named-loop-i
invariant-push_named-loop-i l =
    added l.place.counted l.place.line l.fn.named (take l.count (drop l.from l.names)) l.number
    ≡ prepend l.named (left (named_of l.place.counted l.place.line) (take l.count (drop l.from l.names)) l.i l.next)

abbrev pub invariant-arguments-loop-x : goal.invariant-arguments-loop-x
invariant-arguments-loop-x l =
    (l.from ≤ length l.names)
    × (standing_of l.place.counted l.place.line l.all l.names l.number
    ≡ prepend_args (l.plain, l.named) (standing_of l.place.counted l.place.line (drop l.x-index l.all) (drop l.from l.names) l.next))
