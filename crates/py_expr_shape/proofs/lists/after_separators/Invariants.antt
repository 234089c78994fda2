use Rattle.std.proofs.Common.{◌≡◌, List, Option, length}
use Rattle.py_language.specs.declared.shape.Symbol.{Symbol}
use Rattle.py_language.specs.Trees.{each}
use Rattle.py_expr_shape.specs.Cuts.{pieces_from}
use Rattle.py_expr_shape.specs.Reads.{AnswersEach, prepend}
use Rattle.py_expr_shape.proofs.lists.after_separators.Given as goal

abbrev pub invariant-loop-symbol : goal.invariant-loop-symbol
invariant-loop-symbol g l = (f : Symbol × List Symbol → Option _) → AnswersEach f (goal.G-post g l.item)
    → prepend l.fn.begun (each f (pieces_from l.separator l.symbols)) ≡ prepend l.all (each f (pieces_from l.separator l.rest))

abbrev pub decreases-loop-symbol : goal.decreases-loop-symbol
decreases-loop-symbol g l = length l.rest
