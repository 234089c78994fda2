use Rattle.std.proofs.Common.{◌∙◌, refl, sym, ap, ap₂, ◌+◌, map, take, drop, ℕ, List}
use Rattle.py_syntax.specs.declared.expr.ExprKind.TheVariants as e
use Rattle.py_language.specs.TreesNumbers.{in_order, args}
use Rattle.py_nodes.specs.Expressions.{expr_on}
use Rattle.py_syntax.specs.declared.expr.Args.{Args}
use Rattle.py_syntax.specs.declared.expr.Expr.{Expr}
use Rattle.py_nodes.specs.Code.{pair_of, compared_of, named_of, added, series_kind}
use Rattle.py_nodes.proofs.Arguments.{argument_done, arguments_done, standing_of}
use Rattle.py_nodes.proofs.Parts.{series_is, dict_is, compare_is, slice_is, maybe_on, args_are}
use Rattle.py_nodes.proofs.Steps.{made_is, both, then_is, one_done, all_done, stretch_item, stretch_length, stretch_rest, drop_again}
use Rattle.py_nodes.proofs.expressions.+numbers.Goals as goal

pub list_parts-returns : goal.list_parts-returns
list_parts-returns h c =
    made_is (series_kind c.args.series) (in_order (map (expr_on c.args.place.counted c.args.place.line) c.args.xs.now)) c.args.number _ _ _ _
    (series_is c.args.place.counted c.args.place.line c.args.series c.args.xs.now c.args.number) c.in_ok-all.ensures c.series_kind.ensures

pub parts-returns-in_ok-all-in-DictLit : goal.parts-returns-in_ok-all-in-DictLit
parts-returns-in_ok-all-in-DictLit h c =
    let pairs = c.as_slice-in-DictLit.result.now in
    made_is e.DictLit (in_order (map (pair_of c.args.place.counted c.args.place.line) pairs)) c.args.number _ _ _ _
    (dict_is c.args.place.counted c.args.place.line _ pairs c.args.number (c.in-DictLit.is ∙ ap e.DictLit (sym c.as_slice-in-DictLit.ensures)))
    c.in_ok-all-in-DictLit.ensures refl

pub parts-returns-in_ok-others-in-Compare : goal.parts-returns-in_ok-others-in-Compare
parts-returns-in_ok-others-in-Compare h c =
    let pairs = c.as_slice-in-Compare.result.now in
    let x = c.get-in-Compare.result.now in
    let counted = c.args.place.counted in
    let line = c.args.place.line in
    made_is (λ q. e.Compare q.0 q.1) (both (expr_on counted line x) (in_order (map (compared_of counted line) pairs))) c.args.number _ _ _ _
    (compare_is counted line _ x pairs c.args.number (c.in-Compare.is ∙ ap₂ e.Compare (sym c.get-in-Compare.ensures) (sym c.as_slice-in-Compare.ensures)))
    (then_is (expr_on counted line x) (in_order (map (compared_of counted line) pairs)) _ _ _ _ _ c.in_ok-first-in-Compare.ensures c.in_ok-others-in-Compare.ensures) refl

pub primary-returns-in_ok-high-in-Slice : goal.primary-returns-in_ok-high-in-Slice
primary-returns-in_ok-high-in-Slice h c =
    let x = c.get-in-Slice.result.now in
    let a = c.in-Slice.a in
    let b = c.in-Slice.b in
    let counted = c.args.place.counted in
    let line = c.args.place.line in
    let first = both (expr_on counted line x) (maybe_on counted line a) in
    made_is (λ q. e.Slice q.0.0 q.0.1 q.1) (both first (maybe_on counted line b)) c.args.number _ _ _ _
    (slice_is counted line _ x a b c.args.number (c.in-Slice.is ∙ ap (λ y. e.Slice y a b) (sym c.get-in-Slice.ensures)))
    (then_is first (maybe_on counted line b) _ _ _ _ _
    (then_is (expr_on counted line x) (maybe_on counted line a) _ _ _ _ _ c.in_ok-object-in-Slice.ensures c.in_ok-low-in-Slice.ensures)
    c.in_ok-high-in-Slice.ensures) refl

pub arguments-loop-x-preserved : goal.arguments-loop-x-preserved
arguments-loop-x-preserved h c =
    let counted = c.args.place.counted in
    let line = c.args.place.line in
    let names = c.as_slice-names.result.now in
    let k = c.written_before-count.result in
    let left = drop c.loop-x.from names in
    let front = ap (λ n. take n left) c.written_before-count.ensures.count in
    let back = sym (drop_again names c.loop-x.from k) ∙ ap (λ n. drop n left) c.written_before-count.ensures.count in (
      c.written_before-count.ensures.within,
      argument_done counted line _ c.loop-x.x-index _ left (take k left) (drop (c.loop-x.from + k) names) (c.loop-x.plain, c.loop-x.named) (c.push.new.self, c.push_named.new.named) _ _ _ _ _
          c.loop-x-test.true c.x-item.is c.loop-x.invariant.1 front back c.in_ok-first.ensures c.in_ok-x.ensures c.in_ok-push.ensures.ok,
    )

pub arguments-returns : goal.arguments-returns
arguments-returns h c =
    let counted = c.args.place.counted in
    let line = c.args.place.line in
    let names = c.as_slice-names.result.now in
    let left = drop c.loop-x.from names in
    let whole = standing_of counted line c.as_slice-all.result.now names c.args.number in
    let rest = c.in_ok-end.ensures ∙ ap (λ xs. added counted line c.loop-x.named xs c.loop-x.next) (stretch_rest names c.loop-x.from) in
    arguments_done counted line _ _ c.loop-x.x-index left c.loop-x.plain c.loop-x.named c.push_named-2.new.named c.loop-x.next _ whole c.loop-x-test.false c.loop-x.invariant.1 rest refl
    ∙ sym (args_are counted line c.args.given.now c.args.number ∙ ap₂ (λ xs ns. let r = standing_of counted line xs ns c.args.number in let z : Args × ℕ = (args r.0, r.1) in z) (sym c.as_slice-all.ensures) (sym c.as_slice-names.ensures))

pub push_named-loop-i-preserved : goal.push_named-loop-i-preserved
push_named-loop-i-preserved h c =
    let item = named_of c.args.place.counted c.args.place.line in
    let names = c.args.names.now in
    let xs = take c.args.count (drop c.args.from names) in
    one_done item xs c.loop-i.i c.index-names-from.result _ _ _ _ _ _ (rw (stretch_length names c.args.from c.args.count c.requires) c.loop-i-test.true)
    (stretch_item names c.args.from c.args.count c.loop-i.i _ c.requires c.loop-i-test.true c.index-names-from.is)
    c.loop-i.invariant (ap₂ (λ (n : List ℕ) (r : Expr × ℕ). let z : (List ℕ × Expr) × ℕ = ((n, r.0), r.1) in z) c.in_ok-name.ensures c.in_ok-x.ensures) c.in_ok-push.ensures.ok

pub push_named-returns : goal.push_named-returns
push_named-returns h c =
    let item = named_of c.args.place.counted c.args.place.line in
    let xs = take c.args.count (drop c.args.from c.args.names.now) in
    all_done item xs c.loop-i.i c.loop-i.named c.loop-i.next _ (rw (stretch_length c.args.names.now c.args.from c.args.count c.requires) c.loop-i-test.false) c.loop-i.invariant
