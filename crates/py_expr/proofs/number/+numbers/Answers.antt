use Rattle.std.proofs.Common.{◌∙◌, refl, sym, ap, ap₂, map}
use Rattle.std.specs.Option.{option_map}
use Rattle.py_syntax.specs.declared.expr.ExprKind.TheVariants as e
use Rattle.py_language.specs.declared.shape.Shape.TheVariants as s
use Rattle.py_language.specs.TreesNumbers.{numbered, in_order, entries, compared, bound}
use Rattle.py_expr.specs.Numbers.{pair_numbered, comparison_numbered, series_kind}
use Rattle.py_expr.proofs.NumberSteps.{part_done, parts_done, pair_item, comparison_item, comparison_is, pair_is, argument_done, arguments_done, node_is, series_is, dict_is, both, then_is, compare_is, slice_is}
use Rattle.py_expr.proofs.number.+numbers.Goals as goal

pub all_numbered-loop-shape-preserved : goal.all_numbered-loop-shape-preserved
all_numbered-loop-shape-preserved h c =
    part_done (λ xs. in_order (map numbered xs)) numbered (λ x xs n. refl) _ _ _ _ _ _ _ _ _ c.loop-shape-test.true c.shape-item.is c.loop-shape.invariant c.in_ok-x.ensures c.in_ok-push.ensures.ok

pub entries_numbered-loop-pair-preserved : goal.entries_numbered-loop-pair-preserved
entries_numbered-loop-pair-preserved h c =
    part_done (λ xs. entries (map pair_numbered xs)) pair_item (λ x xs n. refl) _ _ _ _ _ _ _ _ _ c.loop-pair-test.true c.pair-item.is c.loop-pair.invariant (pair_is c.pair-item.result _ _ _ _ _ c.in_ok-key.ensures c.in_ok-value.ensures) c.in_ok-push.ensures.ok

pub entries_numbered-returns : goal.entries_numbered-returns
entries_numbered-returns h c = parts_done (λ xs. entries (map pair_numbered xs)) pair_item (λ x xs n. refl) (λ n. refl) _ _ _ _ _ c.loop-pair-test.false c.loop-pair.invariant

pub compared_numbered-loop-pair-preserved : goal.compared_numbered-loop-pair-preserved
compared_numbered-loop-pair-preserved h c =
    part_done (λ xs. compared (map comparison_numbered xs)) comparison_item (λ x xs n. refl) _ _ _ _ _ _ _ _ _ c.loop-pair-test.true c.pair-item.is c.loop-pair.invariant (comparison_is _ _ _ _ c.in_ok-x.ensures) c.in_ok-push.ensures.ok

pub compared_numbered-returns : goal.compared_numbered-returns
compared_numbered-returns h c = parts_done (λ xs. compared (map comparison_numbered xs)) comparison_item (λ x xs n. refl) (λ n. refl) _ _ _ _ _ c.loop-pair-test.false c.loop-pair.invariant

pub args_numbered-loop-argument-preserved : goal.args_numbered-loop-argument-preserved
args_numbered-loop-argument-preserved h c =
    argument_done _ _ _ _ _ _ _ _ _ c.loop-argument-test.true c.argument-item.is c.loop-argument.invariant c.in_ok-x.ensures c.in_ok-push_argument.ensures

pub args_numbered-returns : goal.args_numbered-returns
args_numbered-returns h c = arguments_done _ _ _ _ _ c.loop-argument-test.false c.loop-argument.invariant

pub series_numbered-returns : goal.series_numbered-returns
series_numbered-returns h c =
    node_is (series_kind c.args.series) (in_order (map numbered c.args.shapes.now)) c.args.number _ _ _ _ _ (series_is c.args.series c.args.shapes.now c.args.number)
    c.in_ok-next.ensures c.in_ok-all.ensures (c.expr.ensures ∙ ap (λ k. record { node = record { 0 = c.args.number }; line = 1; kind = k }) c.series_kind.ensures)

pub numbered-returns-in_ok-all-in-DictLit : goal.numbered-returns-in_ok-all-in-DictLit
numbered-returns-in_ok-all-in-DictLit h c =
    node_is e.DictLit (entries (map pair_numbered c.as_slice-in-DictLit.result.now)) c.args.number _ _ _ _ _ (dict_is _ c.as_slice-in-DictLit.result.now c.args.number (c.in-DictLit.is ∙ ap s.DictLit (sym c.as_slice-in-DictLit.ensures)))
    c.in_ok-next.ensures c.in_ok-all-in-DictLit.ensures c.expr-in-DictLit.ensures

pub numbered-returns-in_ok-others-in-Compare : goal.numbered-returns-in_ok-others-in-Compare
numbered-returns-in_ok-others-in-Compare h c =
    let ps = c.as_slice.result.now in
    let x = c.get-in-Compare.result.now in
    node_is (λ q. e.Compare q.0 q.1) (both (numbered x) (compared (map comparison_numbered ps))) c.args.number _ _ _ _ _
    (compare_is _ x ps c.args.number (c.in-Compare.is ∙ ap₂ s.Compare (sym c.get-in-Compare.ensures) (sym c.as_slice.ensures)))
    c.in_ok-next.ensures
    (then_is (numbered x) (compared (map comparison_numbered ps)) _ _ _ _ _ c.in_ok-first-in-Compare.ensures c.in_ok-others-in-Compare.ensures)
    c.expr-in-Compare.ensures

pub primary_numbered-returns-in_ok-high-in-Slice : goal.primary_numbered-returns-in_ok-high-in-Slice
primary_numbered-returns-in_ok-high-in-Slice h c =
    let x = c.get-in-Slice.result.now in
    let a = c.in-Slice.a in
    let b = c.in-Slice.b in
    let first = both (numbered x) (bound (option_map numbered a)) in
    node_is (λ q. e.Slice q.0.0 q.0.1 q.1) (both first (bound (option_map numbered b))) c.args.number _ _ _ _ _
    (slice_is _ x a b c.args.number (c.in-Slice.is ∙ ap (λ y. s.Slice y a b) (sym c.get-in-Slice.ensures)))
    c.in_ok-next.ensures
    (then_is first (bound (option_map numbered b)) _ _ _ _ _
    (then_is (numbered x) (bound (option_map numbered a)) _ _ _ _ _ c.in_ok-object-in-Slice.ensures c.in_ok-low-in-Slice.ensures)
    c.in_ok-high-in-Slice.ensures)
    c.expr-in-Slice.ensures
