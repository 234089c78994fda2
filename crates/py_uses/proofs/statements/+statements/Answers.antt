use Rattle.std.proofs.Common.{◌≡◌, ◌++◌, sym, subst, ap, ap₂, ◌∙◌}
use Rattle.std.proofs.lemmas.List.{take_all}
use Rattle.std.specs.List.{flat_map}
use Rattle.std.specs.Prelude.{OnOk}
use Rattle.py_syntax.specs.declared.stmt.StmtKind.TheVariants as k
use Rattle.py_scopes.specs.Uses.{uses_in_kind}
use Rattle.py_uses.specs.Blocks.{arm_uses, body_uses, clauses_uses, maybe_body}
use Rattle.py_uses.specs.Seen.{around_seen}
use Rattle.py_uses.proofs.StatementLevels.{kind-If, kind-Try}
use Rattle.py_uses.proofs.statements.+statements.Goals as goal

pub add_branches-returns : goal.add_branches-returns
add_branches-returns t c =
    let uses = c.args.uses.now in
    let line = c.args.line in
    let around = around_seen c.args.around in
    let arms = c.as_slice-arms.result.now in
    let other = c.in-If.other in
    let all = c.loop-arm.invariant ∙ ap (λ ys. uses ++ flat_map (arm_uses around) ys) (take_all c.loop-arm.arm-index arms c.loop-arm-test.false) in
    let is = c.in-If.is ∙ ap (λ xs. k.If xs other) (sym c.as_slice-arms.ensures) in
    let found = ap (λ us. us ++ maybe_body around other) all ∙ sym (kind-If uses line around arms other) ∙ ap (λ kind. uses ++ uses_in_kind kind line around) (sym is) in
    subst (λ us. OnOk c.add_maybe_block.result (c.add_maybe_block.new.uses ≡ us)) found c.add_maybe_block.ensures

pub add_kind-returns-in_ok-add_maybe_block-in-Try : goal.add_kind-returns-in_ok-add_maybe_block-in-Try
add_kind-returns-in_ok-add_maybe_block-in-Try t c =
    let uses = c.args.uses.now in
    let line = c.args.line in
    let around = around_seen c.args.around in
    let body = c.as_slice-in-Try.result.now in
    let clauses = c.as_slice-in-Try-2.result.now in
    let other = c.in-Try.other in
    let last = c.in-Try.last in
    let two = c.in_ok-add_clauses-in-Try.ensures ∙ ap (λ us. us ++ clauses_uses around clauses) c.in_ok-add_block-in-Try.ensures in
    let three = c.in_ok-add_maybe_block-in-Try.ensures ∙ ap (λ us. us ++ maybe_body around other) two in
    let is = c.in-Try.is ∙ ap₂ (λ b cs. k.Try b cs other last) (sym c.as_slice-in-Try.ensures) (sym c.as_slice-in-Try-2.ensures) in
    let found =
    ap (λ us. us ++ maybe_body (around_seen c.in_finally.result) last) three
    ∙ ap (λ a. uses ++ body_uses around body ++ clauses_uses around clauses ++ maybe_body around other ++ maybe_body a last) c.in_finally.ensures
    ∙ sym (kind-Try uses line around body clauses other last)
    ∙ ap (λ kind. uses ++ uses_in_kind kind line around) (sym is)
    in
    subst (λ us. OnOk c.add_maybe_block-in-Try.result (c.add_maybe_block-in-Try.new.uses ≡ us)) found c.add_maybe_block-in-Try.ensures
