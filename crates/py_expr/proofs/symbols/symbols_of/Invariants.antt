use Rattle.std.proofs.Common.{length}
use Rattle.py_expr.proofs.SymbolLemmas.{Seen}
use Rattle.py_expr.proofs.symbols.symbols_of.Given as goal

abbrev pub invariant-loop-token : goal.invariant-loop-token
invariant-loop-token l = Seen l.tokens l.rest l.stack

abbrev pub decreases-loop-token : goal.decreases-loop-token
decreases-loop-token l = length l.rest
