-- The rows of one item more.
use Rattle.std.proofs.Common.{◌≡◌, ℕ, suc, ◌+◌, ◌<◌, List, [], ◌∷◌, ◌++◌, length, drop, get_or, refl, sym, ap, ◌∙◌}
use Rattle.std.proofs.lemmas.List.{append_assoc, append-nil, length_push, length-append, at_drop_more}
use Rattle.py_syntax.specs.declared.module.Item.{Item}
use Rattle.py_syntax.specs.declared.module.Item.TheVariants as item
use Rattle.py_syntax.specs.declared.module.Member.{Member}
use Rattle.py_syntax.specs.declared.module.Member.TheVariants as member
use Rattle.py_plain.specs.Program.{Function, ClassInfo, methods_in, methods_from, functions_from, classes_from, class_info}
use Rattle.py_tables.specs.Rows.{item_functions, item_classes}

pub methods_counted : (class number : ℕ) (members : List Member) → length (methods_in class members) ≡ length (methods_from number members)
methods_counted class number [] = refl
methods_counted class number (member.Func f ∷ members) = ap suc (methods_counted class (number + 1) members)
methods_counted class number (member.Other stmt ∷ members) = methods_counted class number members

pub functions_step : (fs : List Function) (cs : List ClassInfo) (i : Item) (rest : List Item)
    → (fs ++ item_functions (length cs) i) ++ functions_from (length (item_classes cs (length fs) i)) rest ≡ fs ++ functions_from (length cs) (i ∷ rest)
functions_step fs cs (item.Func f) rest = append_assoc fs (item_functions (length cs) (item.Func f)) (functions_from (length cs) rest)
functions_step fs cs (item.Class c) rest = ap (λ n. (fs ++ methods_in (length cs) c.members) ++ functions_from n rest) (length_push cs (class_info cs (length fs) c))
    ∙ append_assoc fs (methods_in (length cs) c.members) (functions_from (length cs + 1) rest)
functions_step fs cs (item.Import line names) rest = ap (λ xs. xs ++ functions_from (length cs) rest) (append-nil fs)
functions_step fs cs (item.Other stmt) rest = ap (λ xs. xs ++ functions_from (length cs) rest) (append-nil fs)

pub classes_step : (fs : List Function) (cs : List ClassInfo) (i : Item) (rest : List Item)
    → classes_from (item_classes cs (length fs) i) (length (fs ++ item_functions (length cs) i)) rest ≡ classes_from cs (length fs) (i ∷ rest)
classes_step fs cs (item.Func f) rest = ap (λ n. classes_from cs n rest) (length-append fs (item_functions (length cs) (item.Func f)))
classes_step fs cs (item.Class c) rest = ap (λ n. classes_from (item_classes cs (length fs) (item.Class c)) n rest)
    (length-append fs (methods_in (length cs) c.members) ∙ ap (λ k. length fs + k) (methods_counted (length cs) 0 c.members))
classes_step fs cs (item.Import line names) rest = ap (λ xs. classes_from cs (length xs) rest) (append-nil fs)
classes_step fs cs (item.Other stmt) rest = ap (λ xs. classes_from cs (length xs) rest) (append-nil fs)

pub stepped : (items : List Item) (at : ℕ) (x : Item) → at < length items → x ≡ get_or items at x → drop at items ≡ x ∷ drop (at + 1) items
stepped items at x within is = at_drop_more (λ ys. ys) items at x within ∙ ap (λ y. y ∷ drop (at + 1) items) (sym is)
