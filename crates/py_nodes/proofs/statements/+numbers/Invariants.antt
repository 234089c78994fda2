use Rattle.std.proofs.Common.{◌≡◌, map}
use Rattle.py_language.specs.TreesNumbers.{in_order}
use Rattle.py_nodes.specs.CodeStatements.{arm_of}
use Rattle.py_nodes.specs.Numbers.{stmt, clause}
use Rattle.py_nodes.proofs.Steps.{prepend, left}
use Rattle.py_nodes.proofs.statements.+numbers.Given as goal

abbrev pub invariant-block-loop-one : goal.invariant-block-loop-one
invariant-block-loop-one l = in_order (map (stmt l.counted) l.body) l.number ≡ prepend l.done (left (stmt l.counted) l.body l.one-index l.next)

abbrev pub invariant-branches-loop-arm : goal.invariant-branches-loop-arm
invariant-branches-loop-arm l = in_order (map (arm_of l.counted) l.arms) l.number ≡ prepend l.done (left (arm_of l.counted) l.arms l.arm-index l.next)

abbrev pub invariant-clauses_in_order-loop-one : goal.invariant-clauses_in_order-loop-one
invariant-clauses_in_order-loop-one l = in_order (map (clause l.counted) l.clauses) l.number ≡ prepend l.done (left (clause l.counted) l.clauses l.one-index l.next)

abbrev pub invariant-maybe_block-loop-one : goal.invariant-maybe_block-loop-one
invariant-maybe_block-loop-one l = in_order (map (stmt l.counted) l.all) l.number ≡ prepend l.done (left (stmt l.counted) l.all l.one-index l.next)
