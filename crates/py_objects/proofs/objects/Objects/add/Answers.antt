use Rattle.std.proofs.Common.{refl, ap, sym, ◌∙◌}
use Rattle.py_meaning.specs.declared.value.Value.{out-Value}
use Rattle.py_meaning.specs.declared.value.Value.TheVariants.{outs-Bool, outs-Int}
use Rattle.py_objects.proofs.Sums.{by_number}
use Rattle.py_objects.proofs.objects.Objects.add.Goals as goal

pub returns-in-Bool : goal.returns-in-Bool
returns-in-Bool c = by_number _ _ _ _ _ _ _ _ (ap out-Value c.in-Bool.is ∙ outs-Bool _) (λ b. refl) c.number.ensures c.number-in-Bool.ensures
    (sym c.is_view.ensures ∙ c.if-is_view.false) (sym c.is_view-else-is_view.ensures ∙ c.if-is_view-2.false) (c.add_numbers.ensures _)

pub returns-in-Int : goal.returns-in-Int
returns-in-Int c = by_number _ _ _ _ _ _ _ _ (ap out-Value c.in-Int.is ∙ outs-Int _) (λ b. refl) c.number-in-Int.ensures c.number-in-Int-2.ensures
    (sym c.is_view.ensures ∙ c.if-is_view.false) (sym c.is_view-else-is_view.ensures ∙ c.if-is_view-2.false) (c.add_numbers-in-Int.ensures _)
