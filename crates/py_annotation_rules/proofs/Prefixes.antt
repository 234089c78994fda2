-- What is known of a list's front, one item on.
use Rattle.std.proofs.Common.{◌≡◌, ◌∙◌, refl, sym, ap, ap₂, ℕ, ◌+◌, ◌<◌, List, [], ◌∷◌, ◌++◌, take, length, get_or, append_assoc, append-nil}
use Rattle.std.specs.List.{flat_map}
use Rattle.std.proofs.lemmas.List.{take_more, map-append}
use Rattle.std.proofs.lemmas.List.Concat.{flat_map-append}
use Rattle.py_syntax.specs.declared.module.Item.{Item}
use Rattle.py_syntax.specs.declared.module.Item.TheVariants as item
use Rattle.py_syntax.specs.declared.module.Member.{Member}
use Rattle.py_scopes.specs.Names.{Bound, Standing, standing, standing_from, bound_by_member, class_names, names_of, classes_in, imports_in, imported_in}
use Rattle.py_module_rules.specs.Pieces.{with_class}

pub front_more : {A : Type 0} (xs : List A) (i : ℕ) (x : A) → i < length xs → x ≡ get_or xs i x → take (i + 1) xs ≡ take i xs ++ x ∷ []
front_more xs i x lt is = take_more xs i x lt ∙ ap (λ y. take i xs ++ y ∷ []) (sym is)

standing_push : {A : Type 0} (before xs : List A) (x : A) → standing_from before (xs ++ x ∷ []) ≡ standing_from before xs ++ record { before = before ++ xs; now = x } ∷ []
standing_push before [] x = ap (λ front. record { before = front; now = x } ∷ []) (sym (append-nil before))
standing_push before (y ∷ xs) x = ap (λ rest. record { before = before; now = y } ∷ rest) (standing_push (before ++ y ∷ []) xs x ∙ ap (λ front. standing_from (before ++ y ∷ []) xs ++ record { before = front; now = x } ∷ []) (append_assoc before (y ∷ []) xs))

single : {A B : Type 0} (f : A → List B) (x : A) → flat_map f (x ∷ []) ≡ f x
single f x = append-nil (f x)

-- the lines that a rule finds in one more, after others and where those before it are known
pub standing_more : {A : Type 0} (f : Standing A → List ℕ) (xs : List A) (i : ℕ) (x : A) (old lines more found : List ℕ) → i < length xs → x ≡ get_or xs i x
    → lines ≡ old ++ flat_map f (standing (take i xs)) → more ≡ lines ++ found → found ≡ f (record { before = take i xs; now = x }) → more ≡ old ++ flat_map f (standing (take (i + 1) xs))
standing_more f xs i x old lines more found lt is before added one =
    let last : Standing _ = record { before = take i xs; now = x } in
    added ∙ ap₂ (λ a b. a ++ b) before (one ∙ sym (single f last))
    ∙ append_assoc old (flat_map f (standing (take i xs))) (flat_map f (last ∷ []))
    ∙ ap (λ ls. old ++ ls)
    (sym (flat_map-append f (standing (take i xs)) (last ∷ []))
    ∙ ap (flat_map f) (sym (standing_push [] (take i xs) x))
    ∙ ap (λ ys. flat_map f (standing ys)) (sym (front_more xs i x lt is)))

classes_push : (items : List Item) (x : Item) → classes_in (items ++ x ∷ []) ≡ with_class (classes_in items) x
classes_push [] (item.Func f) = refl
classes_push [] (item.Class c) = refl
classes_push [] (item.Import line imported) = refl
classes_push [] (item.Other stmt) = refl
classes_push (item.Func f ∷ items) x = classes_push items x
classes_push (item.Import line imported ∷ items) x = classes_push items x
classes_push (item.Other stmt ∷ items) x = classes_push items x
classes_push (item.Class c ∷ items) x = ap (λ names. c.name ∷ names) (classes_push items x) ∙ class_first c.name (classes_in items) x
  where
    class_first : (name : List ℕ) (names : List (List ℕ)) (x : Item) → name ∷ with_class names x ≡ with_class (name ∷ names) x
    class_first name names (item.Func f) = refl
    class_first name names (item.Class c) = refl
    class_first name names (item.Import line imported) = refl
    class_first name names (item.Other stmt) = refl

pub classes_more : (items : List Item) (i : ℕ) (x : Item) (names more : List (List ℕ)) → i < length items → x ≡ get_or items i x
    → names ≡ classes_in (take i items) → more ≡ with_class names x → more ≡ classes_in (take (i + 1) items)
classes_more items i x names more lt is before added =
    added ∙ ap (λ known. with_class known x) before ∙ sym (classes_push (take i items) x) ∙ ap classes_in (sym (front_more items i x lt is))

pub imports_more : (items : List Item) (i : ℕ) (x : Item) (names more : List (List ℕ)) → i < length items → x ≡ get_or items i x
    → names ≡ imports_in (take i items) → more ≡ names ++ imported_in x → more ≡ imports_in (take (i + 1) items)
imports_more items i x names more lt is before added =
    added ∙ ap₂ (λ a b. a ++ b) before (sym (single imported_in x)) ∙ sym (flat_map-append imported_in (take i items) (x ∷ [])) ∙ ap imports_in (sym (front_more items i x lt is))

pub members_more : (members : List Member) (i : ℕ) (x : Member) (names more : List (List ℕ)) → i < length members → x ≡ get_or members i x
    → names ≡ class_names (take i members) → more ≡ names ++ names_of (bound_by_member x) → more ≡ class_names (take (i + 1) members)
members_more members i x names more lt is before added =
    added ∙ ap₂ (λ a b. a ++ b) before (ap names_of (sym (single bound_by_member x)))
    ∙ sym (map-append (λ (b : Bound). b.name) (flat_map bound_by_member (take i members)) (flat_map bound_by_member (x ∷ [])))
    ∙ ap names_of (sym (flat_map-append bound_by_member (take i members) (x ∷ []))) ∙ ap class_names (sym (front_more members i x lt is))
