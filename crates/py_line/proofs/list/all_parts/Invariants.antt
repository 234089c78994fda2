use Rattle.std.proofs.Common.{◌≡◌, List, Option, length}
use Rattle.py_expr_shape.specs.Reads.{prepend}
use Rattle.py_language.specs.declared.token.Token.{Token}
use Rattle.py_language.specs.Trees.{each}
use Rattle.py_grammar.specs.Separators.{all_parts}
use Rattle.py_line.specs.Reads.{Answers, behind}
use Rattle.py_line.proofs.list.all_parts.Given as goal

abbrev pub invariant-loop-separator : goal.invariant-loop-separator
invariant-loop-separator g l = (f : List Token → Option _) → Answers f (goal.G-post g l.part) → all_parts l.separator f l.tokens ≡ prepend l.all (each f (behind l.separator l.rest))

abbrev pub decreases-loop-separator : goal.decreases-loop-separator
decreases-loop-separator g l = length l.rest
