use Rattle.std.proofs.Common.{◌∙◌, sym, ap, List, [], ◌∷◌}
use Rattle.py_syntax.specs.declared.expr.Expr.{Expr}
use Rattle.py_sites.specs.Nodes.{Nodes, expression}
use Rattle.py_sites.specs.Walks.{last_from, expr_part, of_option}
use Rattle.py_sites.proofs.LastParts.{expr-Slice}
use Rattle.py_sites.proofs.last_part.expr_part.Goals as goal

abbrev one : Expr → Nodes
one x = expression x ∷ []

pub returns-in-Slice : goal.returns-in-Slice
returns-in-Slice c =
    let limit = c.args.limit in
    let a = c.in-Slice.a in
    let b = c.in-Slice.b in
    c.last_part-in-Slice-2.ensures
    ∙ ap (λ o. last_from limit o (of_option one b)) (c.last_part-low.ensures ∙ ap (λ o. last_from limit o (of_option one a)) c.last_part-in-Slice.ensures)
    ∙ sym (ap (expr_part limit) c.in-Slice.is ∙ expr-Slice limit c.in-Slice.x a b)
