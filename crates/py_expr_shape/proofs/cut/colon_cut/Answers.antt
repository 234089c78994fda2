use Rattle.std.proofs.Common.{◌∙◌, sym}
use Rattle.py_expr_shape.proofs.CutLemmas.{colon_first}
use Rattle.py_expr_shape.proofs.cut.colon_cut.Goals as goal

pub returns-in-Some : goal.returns-in-Some
returns-in-Some c = (sym c.cut.ensures.front, colon_first _ _ _ (sym c.cut.ensures.back ∙ c.in-Some.ensures))
