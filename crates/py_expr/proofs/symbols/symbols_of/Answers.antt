use Rattle.py_expr.proofs.SymbolLemmas.{seen_goes_on}
use Rattle.py_expr.proofs.symbols.symbols_of.Goals as goal

pub loop-token-preserved : goal.loop-token-preserved
loop-token-preserved c = seen_goes_on _ _ _ _ _ _ _ c.loop-token.invariant c.in-Some.ensures c.in_ok-rest.ensures
