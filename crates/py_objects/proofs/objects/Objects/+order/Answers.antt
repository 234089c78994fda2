use Rattle.std.proofs.Common.{refl, ap, sym, ◌∙◌}
use Rattle.py_meaning.specs.declared.value.Value.{out-Value}
use Rattle.py_meaning.specs.declared.value.Value.TheVariants.{outs-Bool, outs-Int}
use Rattle.py_objects.proofs.Depths.{order_deeper, by_number}
use Rattle.py_objects.proofs.objects.Objects.+order.Goals as goal

pub ordered_sequences-returns-else-levels-eq0 : goal.ordered_sequences-returns-else-levels-eq0
ordered_sequences-returns-else-levels-eq0 t c = order_deeper _ _ _ _ _ _ _ _ c.if-levels-eq0.false c.ordered_parts.ensures

pub ordered_within-returns-in-Bool : goal.ordered_within-returns-in-Bool
ordered_within-returns-in-Bool t c = by_number _ _ _ _ _ _ _ _ _ _ (ap out-Value c.in-Bool.is ∙ outs-Bool _) (λ b. refl) c.number.ensures c.number-in-Bool.ensures
    (sym c.is_view.ensures ∙ c.if-is_view.false) (sym c.is_view-else-is_view.ensures ∙ c.if-is_view-2.false) (c.ordered_numbers.ensures _)

pub ordered_within-returns-in-Int : goal.ordered_within-returns-in-Int
ordered_within-returns-in-Int t c = by_number _ _ _ _ _ _ _ _ _ _ (ap out-Value c.in-Int.is ∙ outs-Int _) (λ b. refl) c.number-in-Int.ensures c.number-in-Int-2.ensures
    (sym c.is_view.ensures ∙ c.if-is_view.false) (sym c.is_view-else-is_view.ensures ∙ c.if-is_view-2.false) (c.ordered_numbers-in-Int.ensures _)
