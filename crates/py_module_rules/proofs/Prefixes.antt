-- What is known of a list's front, one item on.
use Rattle.std.proofs.Common.{◌≡◌, ◌∙◌, refl, sym, ap, ap₂, ℕ, ◌+◌, ◌<◌, not, List, [], ◌∷◌, ◌++◌, Option, Some, None, take, length, get_or, append_assoc, append-nil}
use Rattle.std.specs.List.{flat_map}
use Rattle.std.proofs.lemmas.List.{take_more}
use Rattle.std.proofs.lemmas.List.Concat.{flat_map-append}
use Rattle.py_syntax.specs.declared.module.Item.{Item}
use Rattle.py_syntax.specs.declared.module.Item.TheVariants as item
use Rattle.py_meaning.specs.Methods.{Names}
use Rattle.py_scopes.specs.Names.{Standing, standing, standing_from, constants_of, constants_from, with_assigned, assigned, classes_in}
use Rattle.py_scopes.specs.ModuleRows.{line_if, statement_in, statements_in_class, is_base, base_in}
use Rattle.py_module_rules.specs.Pieces.{with_item, statement_by, statements_by, with_class, is_base_by, base_by}

pub front_more : {A : Type 0} (xs : List A) (i : ℕ) (x : A) → i < length xs → x ≡ get_or xs i x → take (i + 1) xs ≡ take i xs ++ x ∷ []
front_more xs i x lt is = take_more xs i x lt ∙ ap (λ y. take i xs ++ y ∷ []) (sym is)

standing_push : {A : Type 0} (before xs : List A) (x : A) → standing_from before (xs ++ x ∷ []) ≡ standing_from before xs ++ record { before = before ++ xs; now = x } ∷ []
standing_push before [] x = ap (λ front. record { before = front; now = x } ∷ []) (sym (append-nil before))
standing_push before (y ∷ xs) x = ap (λ rest. record { before = before; now = y } ∷ rest) (standing_push (before ++ y ∷ []) xs x ∙ ap (λ front. standing_from (before ++ y ∷ []) xs ++ record { before = front; now = x } ∷ []) (append_assoc before (y ∷ []) xs))

single : {A B : Type 0} (f : A → List B) (x : A) → flat_map f (x ∷ []) ≡ f x
single f x = append-nil (f x)

-- the lines that a rule finds in one item more, where those before it are known
pub standing_more : {A : Type 0} (f : Standing A → List ℕ) (xs : List A) (i : ℕ) (x : A) (lines more found : List ℕ) → i < length xs → x ≡ get_or xs i x
    → lines ≡ flat_map f (standing (take i xs)) → more ≡ lines ++ found → found ≡ f (record { before = take i xs; now = x }) → more ≡ flat_map f (standing (take (i + 1) xs))
standing_more f xs i x lines more found lt is before added one =
    let last : Standing _ = record { before = take i xs; now = x } in
    added ∙ ap₂ (λ a b. a ++ b) before (one ∙ sym (single f last))
    ∙ sym (flat_map-append f (standing (take i xs)) (last ∷ []))
    ∙ ap (flat_map f) (sym (standing_push [] (take i xs) x))
    ∙ ap (λ ys. flat_map f (standing ys)) (sym (front_more xs i x lt is))

-- the constants of one item more
constants_push : (names : Names ℕ) (items : List Item) (x : Item) → constants_from names (items ++ x ∷ []) ≡ with_item (constants_from names items) x
constants_push names [] (item.Func f) = refl
constants_push names [] (item.Class c) = refl
constants_push names [] (item.Import line imported) = refl
constants_push names [] (item.Other stmt) = refl
constants_push names (item.Func f ∷ items) x = constants_push names items x
constants_push names (item.Class c ∷ items) x = constants_push names items x
constants_push names (item.Import line imported ∷ items) x = constants_push names items x
constants_push names (item.Other stmt ∷ items) x = constants_push (with_assigned names (assigned stmt)) items x

pub constants_more : (items : List Item) (i : ℕ) (x : Item) (names more : Names ℕ) → i < length items → x ≡ get_or items i x
    → names ≡ constants_of (take i items) → more ≡ with_item names x → more ≡ constants_of (take (i + 1) items)
constants_more items i x names more lt is before added =
    added ∙ ap (λ known. with_item known x) before ∙ sym (constants_push [] (take i items) x) ∙ ap constants_of (sym (front_more items i x lt is))

-- what the code finds by the constants before an item is what the rule finds
pub statement_is : (before : List Item) (x : Item) → statement_by (constants_of before) x ≡ statement_in before x
statement_is before (item.Func f) = refl
statement_is before (item.Class c) = refl
statement_is before (item.Import line names) = refl
statement_is before (item.Other stmt) = refl

pub class_statements_are : (before : List Item) (x : Item) → statements_by (constants_of before) x ≡ statements_in_class before x
class_statements_are before (item.Func f) = refl
class_statements_are before (item.Class c) = refl
class_statements_are before (item.Import line names) = refl
class_statements_are before (item.Other stmt) = refl

-- the lines that a rule finds in one item more
pub flat_more : {A : Type 0} (f : A → List ℕ) (xs : List A) (i : ℕ) (x : A) (lines more found : List ℕ) → i < length xs → x ≡ get_or xs i x
    → lines ≡ flat_map f (take i xs) → more ≡ lines ++ found → found ≡ f x → more ≡ flat_map f (take (i + 1) xs)
flat_more f xs i x lines more found lt is before added one =
    added ∙ ap₂ (λ a b. a ++ b) before (one ∙ sym (single f x)) ∙ sym (flat_map-append f (take i xs) (x ∷ [])) ∙ ap (flat_map f) (sym (front_more xs i x lt is))

-- the classes of one item more
classes_push : (items : List Item) (x : Item) → classes_in (items ++ x ∷ []) ≡ with_class (classes_in items) x
classes_push [] (item.Func f) = refl
classes_push [] (item.Class c) = refl
classes_push [] (item.Import line imported) = refl
classes_push [] (item.Other stmt) = refl
classes_push (item.Func f ∷ items) x = classes_push items x
classes_push (item.Import line imported ∷ items) x = classes_push items x
classes_push (item.Other stmt ∷ items) x = classes_push items x
classes_push (item.Class c ∷ items) x = ap (λ names. c.name ∷ names) (classes_push items x) ∙ class_first c.name (classes_in items) x
  where
    class_first : (name : List ℕ) (names : List (List ℕ)) (x : Item) → name ∷ with_class names x ≡ with_class (name ∷ names) x
    class_first name names (item.Func f) = refl
    class_first name names (item.Class c) = refl
    class_first name names (item.Import line imported) = refl
    class_first name names (item.Other stmt) = refl

pub classes_more : (items : List Item) (i : ℕ) (x : Item) (names more : List (List ℕ)) → i < length items → x ≡ get_or items i x
    → names ≡ classes_in (take i items) → more ≡ with_class names x → more ≡ classes_in (take (i + 1) items)
classes_more items i x names more lt is before added =
    added ∙ ap (λ known. with_class known x) before ∙ sym (classes_push (take i items) x) ∙ ap classes_in (sym (front_more items i x lt is))

base_named : (before : List Item) (base : Option (List ℕ)) → is_base_by (classes_in before) base ≡ is_base before base
base_named before None = refl
base_named before (Some name) = refl

pub base_is : (before : List Item) (x : Item) → base_by (classes_in before) x ≡ base_in before x
base_is before (item.Func f) = refl
base_is before (item.Class c) = ap (λ b. line_if (not b) c.line) (base_named before c.base)
base_is before (item.Import line names) = refl
base_is before (item.Other stmt) = refl
