-- One item more.
use Rattle.std.proofs.Common.{◌≡◌, ℕ, suc, ◌+◌, List, [], ◌∷◌, ◌++◌, ◌<◌, length, drop, get_or, refl, sym, ap, ◌∙◌, arith}
use Rattle.std.proofs.lemmas.List.{append_assoc, append-nil, at_drop_more}
use Rattle.py_syntax.specs.declared.module.Item.{Item}
use Rattle.py_syntax.specs.declared.module.Item.TheVariants as item
use Rattle.py_syntax.specs.declared.module.Member.{Member}
use Rattle.py_syntax.specs.declared.module.Member.TheVariants as member
use Rattle.py_plain.specs.Program.{methods_from}
use Rattle.suite_model.specs.declared.callable.Callable.{Callable}
use Rattle.suite_model.specs.Callables.{callables_from}
use Rattle.test_chromosome.specs.Counts.{method_count, functions_after, classes_after, item_callables}

counted : (number : ℕ) (members : List Member) → length (methods_from number members) ≡ method_count members
counted number [] = refl
counted number (member.Func f ∷ members) = ap suc (counted (number + 1) members) ∙ omega arith
counted number (member.Other stmt ∷ members) = counted number members

-- the callables of the items from one on
pub item_step : (list : List Callable) (functions classes : ℕ) (i : Item) (items : List Item)
    → (list ++ item_callables functions classes i) ++ callables_from (functions_after functions i) (classes_after classes i) items ≡ list ++ callables_from functions classes (i ∷ items)
item_step list functions classes (item.Func f) items = append_assoc list (item_callables functions classes (item.Func f)) (callables_from (functions + 1) classes items)
item_step list functions classes (item.Class c) items =
    append_assoc list (item_callables functions classes (item.Class c)) (callables_from (functions + method_count c.members) (classes + 1) items)
    ∙ ap (λ n. list ++ (item_callables functions classes (item.Class c) ++ callables_from (functions + n) (classes + 1) items)) (sym (counted 0 c.members))
item_step list functions classes (item.Import line names) items = ap (λ xs. xs ++ callables_from functions classes items) (append-nil list)
item_step list functions classes (item.Other stmt) items = ap (λ xs. xs ++ callables_from functions classes items) (append-nil list)

pub stepped : (items : List Item) (at : ℕ) (x : Item) → at < length items → x ≡ get_or items at x → drop at items ≡ x ∷ drop (at + 1) items
stepped items at x within is = at_drop_more (λ ys. ys) items at x within ∙ ap (λ y. y ∷ drop (at + 1) items) (sym is)
