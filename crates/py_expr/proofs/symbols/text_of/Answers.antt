use Rattle.py_expr.proofs.SymbolLemmas.{no_text}
use Rattle.py_expr.proofs.symbols.text_of.Goals as goal

pub returns-in_default : goal.returns-in_default
returns-in_default c = no_text _ c.in_default.not-Str
