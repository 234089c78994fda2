use Rattle.std.proofs.Common.{◌≡◌, ◌++◌, sym, subst, ap, ◌∙◌}
use Rattle.std.specs.Prelude.{OnOk}
use Rattle.py_scopes.specs.Uses.{uses_of, uses_of_kind, maybe_uses}
use Rattle.py_uses.proofs.ExpressionLevels.{kind-Slice}
use Rattle.py_uses.proofs.expressions.+expressions.Goals as goal

pub add_kind-returns-in_ok-add_maybe-in-Slice : goal.add_kind-returns-in_ok-add_maybe-in-Slice
add_kind-returns-in_ok-add_maybe-in-Slice t c =
    let uses = c.args.uses.now in
    let line = c.args.line in
    let x = c.in-Slice.x in
    let low = c.in-Slice.low in
    let high = c.in-Slice.high in
    let one = c.in_ok-add_expr-in-Slice.ensures ∙ ap (λ x. uses ++ uses_of x) c.get-in-Slice.ensures in
    let two = c.in_ok-add_maybe-in-Slice.ensures ∙ ap (λ us. us ++ maybe_uses low) one in
    let found = ap (λ us. us ++ maybe_uses high) two ∙ sym (kind-Slice uses line x low high) ∙ ap (λ kind. uses ++ uses_of_kind kind line) (sym c.in-Slice.is) in
    subst (λ us. OnOk c.add_maybe-in-Slice.result (c.add_maybe-in-Slice.new.uses ≡ us)) found c.add_maybe-in-Slice.ensures
