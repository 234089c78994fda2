use Rattle.std.proofs.Common.{◌≡◌, ◌++◌, sym, subst, ap, ap₂, ◌∙◌}
use Rattle.std.proofs.lemmas.List.{take_all}
use Rattle.std.specs.List.{flat_map}
use Rattle.std.specs.Prelude.{OnOk}
use Rattle.py_syntax.specs.declared.stmt.StmtKind.TheVariants as k
use Rattle.py_names.specs.Bound.{clause_names, kind_names}
use Rattle.py_name_rules.specs.Blocks.{arms_bound, maybe_bound}
use Rattle.py_name_rules.proofs.BoundLevels.{kind-If, kind-Try}
use Rattle.py_name_rules.proofs.bound.+bound.Goals as goal

pub add_branches-returns : goal.add_branches-returns
add_branches-returns t c =
    let names = c.args.names.now in
    let arms = c.as_slice-arms.result.now in
    let other = c.in-If.other in
    let all = c.loop-arm.invariant ∙ ap (λ ys. names ++ arms_bound ys) (take_all c.loop-arm.arm-index arms c.loop-arm-test.false) in
    let is = c.in-If.is ∙ ap (λ xs. k.If xs other) (sym c.as_slice-arms.ensures) in
    let found = ap (λ xs. xs ++ maybe_bound other) all ∙ sym (kind-If names arms other) ∙ ap (λ kind. names ++ kind_names kind) (sym is) in
    subst (λ xs. OnOk c.add_maybe.result (c.add_maybe.new.names ≡ xs)) found c.add_maybe.ensures

pub add_kind-returns-in_ok-add_maybe-in-Try : goal.add_kind-returns-in_ok-add_maybe-in-Try
add_kind-returns-in_ok-add_maybe-in-Try t c =
    let names = c.args.names.now in
    let body = c.as_slice-in-Try.result.now in
    let clauses = c.as_slice-in-Try-2.result.now in
    let other = c.in-Try.other in
    let last = c.in-Try.last in
    let two = c.in_ok-add_clauses-in-Try.ensures ∙ ap (λ xs. xs ++ flat_map clause_names clauses) c.in_ok-add_block-in-Try.ensures in
    let three = c.in_ok-add_maybe-in-Try.ensures ∙ ap (λ xs. xs ++ maybe_bound other) two in
    let is = c.in-Try.is ∙ ap₂ (λ b cs. k.Try b cs other last) (sym c.as_slice-in-Try.ensures) (sym c.as_slice-in-Try-2.ensures) in
    let found = ap (λ xs. xs ++ maybe_bound last) three ∙ sym (kind-Try names body clauses other last) ∙ ap (λ kind. names ++ kind_names kind) (sym is) in
    subst (λ xs. OnOk c.add_maybe-in-Try.result (c.add_maybe-in-Try.new.names ≡ xs)) found c.add_maybe-in-Try.ensures
