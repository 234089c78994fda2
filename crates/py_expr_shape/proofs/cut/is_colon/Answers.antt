use Rattle.py_expr_shape.proofs.CutLemmas.{not_colon}
use Rattle.py_expr_shape.proofs.cut.is_colon.Goals as goal

pub returns-in_default : goal.returns-in_default
returns-in_default c = λ after. not_colon _ _ c.in_default.not-Colon
