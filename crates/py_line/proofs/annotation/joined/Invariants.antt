use Rattle.std.proofs.Common.{◌≡◌, length}
use Rattle.py_expr_shape.specs.Reads.{prepend}
use Rattle.py_grammar.specs.Annotations.{strings}
use Rattle.py_line.proofs.annotation.joined.Given as goal

abbrev pub invariant-loop-token : goal.invariant-loop-token
invariant-loop-token l = strings l.tokens ≡ prepend l.text (strings l.rest)

abbrev pub decreases-loop-token : goal.decreases-loop-token
decreases-loop-token l = length l.rest
