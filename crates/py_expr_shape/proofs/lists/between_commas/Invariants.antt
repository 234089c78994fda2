use Rattle.std.proofs.Common.{◌≡◌, List, Option, length}
use Rattle.py_language.specs.declared.shape.Symbol.{Symbol}
use Rattle.py_language.specs.Trees.{comma_list}
use Rattle.py_expr_shape.specs.Reads.{Answers, prepend}
use Rattle.py_expr_shape.proofs.lists.between_commas.Given as goal

abbrev pub invariant-loop-part : goal.invariant-loop-part
invariant-loop-part g l = (f : List Symbol → Option _) → Answers f (goal.G-post g l.item) → comma_list f l.symbols ≡ prepend l.all (comma_list f l.rest)

abbrev pub decreases-loop-part : goal.decreases-loop-part
decreases-loop-part g l = length l.rest
