use Rattle.std.proofs.Common.{◌≡◌, ◌∙◌, refl, sym, ap, ap₂, subst}
use Rattle.std.specs.Prelude.{OnOk}
use Rattle.std.specs.List.{flat_map}
use Rattle.py_language.specs.declared.token.Keyword.TheVariants as k
use Rattle.py_syntax.specs.declared.stmt.StmtKind.TheVariants as s
use Rattle.py_layout.specs.Rows.{rows_of, rows_of_clause, rows_of_kind}
use Rattle.py_annotation_layout.specs.Annotations.{annotation_tokens}
use Rattle.module_printer.specs.Blocks.{arms_by, maybe_rows}
use Rattle.module_printer.specs.Pages.{onto}
use Rattle.module_printer.proofs.Pages.{onto_append}
use Rattle.module_printer.proofs.StatementRows.{kind-If, one_part, all_parts, one_arm, all_arms, try_onto, small_onto, other_kind}
use Rattle.module_printer.proofs.blocks.+blocks.Goals as goal

pub block-loop-x-init : goal.block-loop-x-init
block-loop-x-init h c = refl

pub block-loop-x-preserved : goal.block-loop-x-preserved
block-loop-x-preserved h c =
    one_part (λ x. rows_of annotation_tokens x c.args.column) c.args.body.now c.loop-x.x-index c.x-item.result _ c.loop-x.page c.statement.new.page c.loop-x-test.true c.x-item.is c.loop-x.invariant c.in_ok-statement.ensures

pub block-returns : goal.block-returns
block-returns h c = all_parts (λ x. rows_of annotation_tokens x c.args.column) c.args.body.now c.loop-x.x-index _ c.loop-x.page c.loop-x-test.false c.loop-x.invariant

pub clauses-loop-x-init : goal.clauses-loop-x-init
clauses-loop-x-init h c = refl

pub clauses-loop-x-preserved : goal.clauses-loop-x-preserved
clauses-loop-x-preserved h c =
    one_part (λ x. rows_of_clause annotation_tokens x c.args.column) c.args.all.now c.loop-x.x-index c.x-item.result _ c.loop-x.page c.clause.new.page c.loop-x-test.true c.x-item.is c.loop-x.invariant c.in_ok-clause.ensures

pub clauses-returns : goal.clauses-returns
clauses-returns h c = all_parts (λ x. rows_of_clause annotation_tokens x c.args.column) c.args.all.now c.loop-x.x-index _ c.loop-x.page c.loop-x-test.false c.loop-x.invariant

pub branches-loop-arm-init : goal.branches-loop-arm-init
branches-loop-arm-init h c = refl

pub branches-loop-arm-preserved : goal.branches-loop-arm-preserved
branches-loop-arm-preserved h c =
    one_arm c.args.column c.as_slice-arms.result.now c.loop-arm.arm-index c.arm-item.result c.loop-arm.keyword c.as_slice.result.now _ c.loop-arm.page c.tested_line.new.page c.deeper.new.page
    c.loop-arm-test.true c.arm-item.is c.loop-arm.invariant c.in_ok-tested_line-in-If.ensures c.as_slice.ensures c.in_ok-deeper-in-If.ensures

pub branches-returns : goal.branches-returns
branches-returns h c =
    let page = c.args.page.now in
    let column = c.args.column in
    let arms = c.as_slice-arms.result.now in
    let other = c.in-If.other in
    let all = all_arms column arms c.loop-arm.arm-index c.loop-arm.keyword _ c.loop-arm.page c.loop-arm-test.false c.loop-arm.invariant in
    let is = c.in-If.is ∙ ap (λ xs. s.If xs other) (sym c.as_slice-arms.ensures) in
    let found =
    ap (λ p. onto p (maybe_rows column k.Else other)) all
    ∙ sym (onto_append page (arms_by column k.If arms) (maybe_rows column k.Else other))
    ∙ ap (onto page) (sym (kind-If arms other column))
    ∙ ap (λ kind. onto page (rows_of_kind annotation_tokens kind column)) (sym is)
    in
    subst (λ p. OnOk c.maybe.result (c.maybe.new.page ≡ p)) found c.maybe.ensures

pub statement-returns-in_ok-maybe-in-Try : goal.statement-returns-in_ok-maybe-in-Try
statement-returns-in_ok-maybe-in-Try h c =
    let page = c.args.page.now in
    let column = c.args.column in
    let body = c.as_slice-in-Try.result.now in
    let all = c.as_slice-in-Try-2.result.now in
    let other = c.in-Try.other in
    let last = c.in-Try.last in
    let clauses = flat_map (λ x. rows_of_clause annotation_tokens x column) all in
    let one = c.in_ok-worded-in-Try.ensures in
    let two = c.in_ok-clauses-in-Try.ensures ∙ ap (λ p. onto p clauses) one in
    let three = c.in_ok-maybe-in-Try.ensures ∙ ap (λ p. onto p (maybe_rows column k.Else other)) two in
    let is = c.in-Try.is ∙ ap₂ (λ b cs. s.Try b cs other last) (sym c.as_slice-in-Try.ensures) (sym c.as_slice-in-Try-2.ensures) in
    let found = ap (λ p. onto p (maybe_rows column k.Finally last)) three ∙ try_onto page column c.args.x.now body all other last is in
    subst (λ p. OnOk c.maybe-in-Try.result (c.maybe-in-Try.new.page ≡ p)) found c.maybe-in-Try.ensures

pub statement-returns-in_default : goal.statement-returns-in_default
statement-returns-in_default h c =
    let small = small_onto c.args.page.now c.args.column c.args.x.now (other_kind c.args.x.now.kind c.in_default.not-If c.in_default.not-While c.in_default.not-For c.in_default.not-Try) in
    subst (λ p. OnOk c.small_line.result (c.small_line.new.page ≡ p)) small c.small_line.ensures
