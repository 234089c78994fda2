use Rattle.std.proofs.Common.{length}
use Rattle.py_expr.proofs.SymbolLemmas.{Apart}
use Rattle.py_expr.proofs.symbols.strings_apart.Given as goal

abbrev pub invariant-loop-before : goal.invariant-loop-before
invariant-loop-before l = Apart l.tokens l.outer

abbrev pub decreases-loop-before : goal.decreases-loop-before
decreases-loop-before l = length l.outer
