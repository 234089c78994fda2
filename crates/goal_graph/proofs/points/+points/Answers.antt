use Rattle.std.proofs.Common.{◌≡◌, ◌++◌, sym, subst, ap, ap₂, ◌∙◌}
use Rattle.std.proofs.lemmas.List.{append-nil, at_drop_all}
use Rattle.std.specs.Prelude.{OnOk}
use Rattle.py_syntax.specs.declared.stmt.StmtKind.TheVariants as k
use Rattle.goal_model.specs.Points.{points_in_kind}
use Rattle.goal_graph.specs.Blocks.{arms_points, clauses_points, governor_after, maybe_points}
use Rattle.goal_graph.proofs.Levels.{kind-If, kind-Try}
use Rattle.goal_graph.proofs.points.+points.Goals as goal

pub add_arms-returns : goal.add_arms-returns
add_arms-returns t c =
    let xs = c.args.to.now.items in
    let node = c.args.node in
    let line = c.args.line in
    let governor = c.args.governor in
    let arms = c.as_slice-all.result.now in
    let other = c.in-If.other in
    let loop = c.loop-arm in
    let all = sym (append-nil loop.to.items) ∙ sym (at_drop_all (λ ys. loop.to.items ++ arms_points loop.outer ys) arms loop.arm-index c.loop-arm-test.false) ∙ loop.invariant.points in
    let last = sym (at_drop_all (λ ys. governor_after loop.outer ys) arms loop.arm-index c.loop-arm-test.false) ∙ loop.invariant.outer in
    let is = c.in-If.is ∙ ap (λ xs. k.If xs other) (sym c.as_slice-all.ensures) in
    let found = ap₂ (λ ys g. ys ++ maybe_points g other) all last ∙ sym (kind-If xs node line governor arms other) ∙ ap (λ kind. xs ++ points_in_kind kind node line governor) (sym is) in
    subst (λ ys. OnOk c.add_maybe.result (c.add_maybe.new.to.items ≡ ys)) found c.add_maybe.ensures

pub add_kind-returns-in_ok-add_maybe-in-Try : goal.add_kind-returns-in_ok-add_maybe-in-Try
add_kind-returns-in_ok-add_maybe-in-Try t c =
    let xs = c.args.to.now.items in
    let node = c.args.node in
    let line = c.args.line in
    let governor = c.args.governor in
    let body = c.as_slice-in-Try.result.now in
    let clauses = c.as_slice-in-Try-2.result.now in
    let other = c.in-Try.other in
    let last = c.in-Try.last in
    let two = c.in_ok-add_clauses-in-Try.ensures ∙ ap (λ ys. ys ++ clauses_points governor clauses) c.in_ok-add_block-in-Try.ensures in
    let three = c.in_ok-add_maybe-in-Try.ensures ∙ ap (λ ys. ys ++ maybe_points governor other) two in
    let is = c.in-Try.is ∙ ap₂ (λ b cs. k.Try b cs other last) (sym c.as_slice-in-Try.ensures) (sym c.as_slice-in-Try-2.ensures) in
    let found = ap (λ ys. ys ++ maybe_points governor last) three ∙ sym (kind-Try xs node line governor body clauses other last) ∙ ap (λ kind. xs ++ points_in_kind kind node line governor) (sym is) in
    subst (λ ys. OnOk c.add_maybe-in-Try.result (c.add_maybe-in-Try.new.to.items ≡ ys)) found c.add_maybe-in-Try.ensures
