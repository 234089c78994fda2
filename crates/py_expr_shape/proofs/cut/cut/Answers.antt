use Rattle.std.proofs.Common.{◌∙◌, sym}
use Rattle.py_expr_shape.specs.Cuts.{separates}
use Rattle.py_expr_shape.proofs.CutLemmas.{cut_front, back_is, pieces_back}
use Rattle.py_expr_shape.proofs.cut.cut.Goals as goal

pub returns-clause-front : goal.returns-clause-front
returns-clause-front c =
    let p = separates c.args.separator in
    c.split_at.ensures.front ∙ cut_front p _ _ (back_is p _ _ _ c.loop-symbol.invariant.back_is c.in_default.ensures)

pub returns-clause-pieces : goal.returns-clause-pieces
returns-clause-pieces c = λ h. pieces_back c.args.separator _ _ h (sym (back_is (separates c.args.separator) _ _ _ c.loop-symbol.invariant.back_is c.in_default.ensures))
