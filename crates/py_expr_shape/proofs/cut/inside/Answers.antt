use Rattle.std.proofs.Common.{◌∙◌, sym, ap, ◌∷◌}
use Rattle.py_language.specs.declared.shape.Symbol.TheVariants.{Close}
use Rattle.py_expr_shape.proofs.CutLemmas.{not_closed, is_closed, more_closed, inside_by}
use Rattle.py_expr_shape.proofs.cut.inside.Goals as goal

pub returns-in_default : goal.returns-in_default
returns-in_default c = inside_by _ _ _ _ c.cut.ensures.front c.cut.ensures.back _ (not_closed _ _ _ c.in_default.ensures)

pub returns-in-None : goal.returns-in-None
returns-in-None c =
    inside_by _ _ _ _ c.cut.ensures.front (sym (c.in-Some.ensures ∙ ap (λ ys. Close c.args.bracket ∷ ys) c.in-None.ensures) ∙ c.cut.ensures.back) _ (is_closed c.args.bracket c.cut.result.0.now)

pub returns-in-Some-first : goal.returns-in-Some-first
returns-in-Some-first c =
    inside_by _ _ _ _ c.cut.ensures.front (sym (c.in-Some.ensures ∙ ap (λ ys. Close c.args.bracket ∷ ys) c.in-Some-first.ensures) ∙ c.cut.ensures.back) _ (more_closed c.args.bracket c.cut.result.0.now c.in-Some-first.field-0.0.now c.in-Some-first.field-0.1.now)
