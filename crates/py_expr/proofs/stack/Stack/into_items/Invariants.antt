use Rattle.std.proofs.Common.{◌≡◌, ◌++◌, length}
use Rattle.py_expr.proofs.stack.Stack.into_items.Given as goal

abbrev pub invariant-loop-symbol : goal.invariant-loop-symbol
invariant-loop-symbol l = l.all ++ l.stack ≡ l.fn.self

abbrev pub decreases-loop-symbol : goal.decreases-loop-symbol
decreases-loop-symbol l = length l.stack
