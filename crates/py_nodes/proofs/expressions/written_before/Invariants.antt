use Rattle.std.proofs.Common.{◌≡◌, ◌+◌, drop}
use Rattle.std.specs.List.{prefix_len}
use Rattle.py_nodes.specs.Code.{precedes}
use Rattle.py_nodes.proofs.expressions.written_before.Given as goal

abbrev pub invariant-loop-i : goal.invariant-loop-i
invariant-loop-i l = prefix_len (precedes l.had) l.left ≡ l.i + prefix_len (precedes l.had) (drop l.i l.left)
