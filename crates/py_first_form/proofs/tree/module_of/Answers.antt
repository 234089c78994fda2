use Rattle.std.proofs.Common.{◌∙◌, sym, ap, ◌<◌, ◌++◌, ◌∷◌, [], append_assoc, arith}
use Rattle.py_syntax.specs.declared.module.Item.TheVariants as item
use Rattle.py_first_form.proofs.TreeLemmas.{items_from-more, next_place}
use Rattle.py_first_form.proofs.tree.module_of.Goals as goal

pub overflow_cast-place : goal.overflow_cast-place
overflow_cast-place c =
    let whole = ap (λ rest. c.loop-function.yielded ++ rest) (sym c.in-Some.ensures.steps.0) ∙ c.loop-function.invariant.whole in
    let below : c.len-place.result < 2000 = next_place c.loop-function.items _ _ c.loop-function.yielded _ _ c.in-Some.function c.loop-function.invariant.items c.len-place.ensures whole c.requires in
    omega (arith, below)

pub func_at-requires : goal.func_at-requires
func_at-requires c =
    let whole = ap (λ rest. c.loop-function.yielded ++ rest) (sym c.in-Some.ensures.steps.0) ∙ c.loop-function.invariant.whole in
    next_place c.loop-function.items _ _ c.loop-function.yielded _ _ c.in-Some.function c.loop-function.invariant.items c.len-place.ensures whole c.requires

pub loop-function-preserved : goal.loop-function-preserved
loop-function-preserved c = record {
  items =
      c.in_ok-push.ensures.ok
      ∙ ap (λ func. c.loop-function.items ++ item.Func func ∷ []) c.in_ok-func_at.ensures
      ∙ items_from-more c.loop-function.items _ c.loop-function.yielded c.in-Some.function c.loop-function.invariant.items c.len-place.ensures;
  whole = append_assoc c.loop-function.yielded _ _ ∙ ap (λ rest. c.loop-function.yielded ++ rest) (sym c.in-Some.ensures.steps.0) ∙ c.loop-function.invariant.whole;
}
