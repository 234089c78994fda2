-- Faults of an annotation, by its kind.
use Rattle.std.proofs.Common.{◌≡◌, ◌∙◌, refl, ap, ap₂, ℕ, suc, true, false, ◌&&◌, ◌||◌, List, [], ◌∷◌, map, length}
use Rattle.std.specs.List.{list_any}
use Rattle.py_syntax.specs.declared.module.Item.{Item}
use Rattle.py_syntax.specs.declared.stmt.Annotation.{Annotation, Annotation-F, map-Annotation, out-Annotation}
use Rattle.py_syntax.specs.declared.stmt.Annotation.TheVariants as a
use Rattle.py_syntax.specs.declared.stmt.Annotation.TheVariants.{outs-Named, outs-NoneType, outs-OrNone, outs-Quoted}
use Rattle.py_scopes.specs.Annotations.{Where, Checked, inner, in_quotes, name_faulty, checked_by, faulty, none_of, quoted_of}
use Rattle.py_scopes.specs.Folds.{faulty_by_part, none_by_part, quoted_by_part}
use Rattle.py_scopes.specs.Laws.{checked_part}
use Rattle.py_annotation_rules.specs.Before.{Before}
use Rattle.py_annotation_rules.specs.Found.{faulty_at}

abbrev parts : List Item → List Item → Annotation-F Annotation → Annotation-F Checked
parts items before = map-Annotation Annotation Checked (checked_part items before)

any_is : (items before : List Item) (at : Where) (xs : List Annotation) → list_any (λ (part : Checked). part.is_faulty at) (map (checked_part items before) xs) ≡ list_any (λ x. faulty items before x at) xs
any_is items before at [] = refl
any_is items before at (x ∷ xs) = ap (λ b. faulty items before x at || b) (any_is items before at xs)

length_map : {A B : Type 0} (f : A → B) (xs : List A) → length (map f xs) ≡ length xs
length_map f [] = refl
length_map f (x ∷ xs) = ap suc (length_map f xs)

faulty_is : (scope : Before) (annotation : Annotation) (k : Annotation-F Annotation) (at : Where) → out-Annotation annotation ≡ k
    → faulty scope.whole.items scope.front annotation at ≡ (checked_by scope.whole.items scope.front (parts scope.whole.items scope.front k)).is_faulty at
faulty_is scope annotation k at is =
    faulty_by_part scope.whole.items scope.front annotation at
    ∙ ap (λ k. (checked_by scope.whole.items scope.front (parts scope.whole.items scope.front k)).is_faulty at) is

pub faulty-Named : (scope : Before) (at : Where) (name : List ℕ) (xs : List Annotation)
    → faulty_at scope at (a.Named name xs) ≡ (name_faulty scope.whole.items scope.front name (length xs) at || list_any (faulty_at scope (inner at)) xs)
faulty-Named scope at name xs =
    faulty_is scope _ _ at (outs-Named name xs)
    ∙ ap₂ (λ n b. name_faulty scope.whole.items scope.front name n at || b) (length_map (checked_part scope.whole.items scope.front) xs) (any_is scope.whole.items scope.front (inner at) xs)

pub faulty-NoneType : (scope : Before) (at : Where) → faulty_at scope at a.NoneType ≡ false
faulty-NoneType scope at = faulty_is scope _ _ at outs-NoneType

pub faulty-OrNone : (scope : Before) (at : Where) (x : Annotation)
    → faulty_at scope at (a.OrNone x) ≡ (none_of scope.whole.items scope.front x || (at.evaluated && quoted_of scope.whole.items scope.front x) || faulty_at scope (inner at) x)
faulty-OrNone scope at x = faulty_is scope _ _ at (outs-OrNone x)

pub faulty-Quoted : (scope : Before) (at : Where) (x : Annotation) → faulty_at scope at (a.Quoted x) ≡ faulty_at scope (in_quotes at) x
faulty-Quoted scope at x = faulty_is scope _ _ at (outs-Quoted x)

pub ruleset faulty_levels = (faulty-Named, faulty-NoneType, faulty-OrNone, faulty-Quoted)

-- ---- whether it is `None`, or in quotes

none_is : (items before : List Item) (annotation : Annotation) (k : Annotation-F Annotation) → out-Annotation annotation ≡ k
    → none_of items before annotation ≡ (checked_by items before (parts items before k)).is_none
none_is items before annotation k is = none_by_part items before annotation ∙ ap (λ k. (checked_by items before (parts items before k)).is_none) is

pub none-Named : (items before : List Item) (name : List ℕ) (xs : List Annotation) → none_of items before (a.Named name xs) ≡ false
none-Named items before name xs = none_is items before _ _ (outs-Named name xs)

pub none-NoneType : (items before : List Item) → none_of items before a.NoneType ≡ true
none-NoneType items before = none_is items before _ _ outs-NoneType

pub none-OrNone : (items before : List Item) (x : Annotation) → none_of items before (a.OrNone x) ≡ false
none-OrNone items before x = none_is items before _ _ (outs-OrNone x)

pub none-Quoted : (items before : List Item) (x : Annotation) → none_of items before (a.Quoted x) ≡ false
none-Quoted items before x = none_is items before _ _ (outs-Quoted x)

pub ruleset none_levels = (none-Named, none-NoneType, none-OrNone, none-Quoted)

quoted_is : (items before : List Item) (annotation : Annotation) (k : Annotation-F Annotation) → out-Annotation annotation ≡ k
    → quoted_of items before annotation ≡ (checked_by items before (parts items before k)).is_quoted
quoted_is items before annotation k is = quoted_by_part items before annotation ∙ ap (λ k. (checked_by items before (parts items before k)).is_quoted) is

pub quoted-Named : (items before : List Item) (name : List ℕ) (xs : List Annotation) → quoted_of items before (a.Named name xs) ≡ false
quoted-Named items before name xs = quoted_is items before _ _ (outs-Named name xs)

pub quoted-NoneType : (items before : List Item) → quoted_of items before a.NoneType ≡ false
quoted-NoneType items before = quoted_is items before _ _ outs-NoneType

pub quoted-OrNone : (items before : List Item) (x : Annotation) → quoted_of items before (a.OrNone x) ≡ false
quoted-OrNone items before x = quoted_is items before _ _ (outs-OrNone x)

pub quoted-Quoted : (items before : List Item) (x : Annotation) → quoted_of items before (a.Quoted x) ≡ true
quoted-Quoted items before x = quoted_is items before _ _ (outs-Quoted x)

pub ruleset quoted_levels = (quoted-Named, quoted-NoneType, quoted-OrNone, quoted-Quoted)
