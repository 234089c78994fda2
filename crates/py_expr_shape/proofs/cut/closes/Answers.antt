use Rattle.py_expr_shape.proofs.CutLemmas.{not_closing}
use Rattle.py_expr_shape.proofs.cut.closes.Goals as goal

pub returns-in_default : goal.returns-in_default
returns-in_default c = λ after. not_closing _ _ c.in_default.not-Close
