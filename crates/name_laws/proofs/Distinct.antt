-- Names that all differ: a module in which no name is bound twice has such.
use Rattle.std.proofs.Common.{Bool, List, None, Option, Some, [], false, refl, sym, true, ℕ, ◌++◌, ◌∷◌, ◌≡◌, ◌||◌}
use Rattle.std.proofs.lemmas.Slice.Eq.{bytes_eq-Decides}
use Rattle.std.specs.List.{AllByRecursion, flat_map}
use Rattle.std.specs.Prelude.{bytes_eq, if◌then◌else◌, nat_lt}
use Rattle.pyn_base.specs.declared.construct.Construct.{Construct}
use Rattle.py_meaning.specs.Methods.{is_among}
use Rattle.py_syntax.specs.declared.module.Module.{Module}
use Rattle.py_scopes.specs.ModuleRows.{again_in_class, bound_again, bound_built, line_if}
use Rattle.py_scopes.specs.Names.{Bound, bound_by_item, module_names, names_of}
use Rattle.py_scopes.specs.Refusals.{Row, earlier, fault_of, first_fault, least, least_with, refusal, rows}
use Rattle.name_laws.proofs.Lists.{all_also, all_back, all_front}

abbrev pub Differs : List ℕ → List ℕ → Type 0
Differs name other = name ≡ other → ⊥

-- a name that is none of these
abbrev pub Apart : List (List ℕ) → List ℕ → Type 0
Apart names name = AllByRecursion (Differs name) names

abbrev pub Distinct : List (List ℕ) → Type 0
Distinct [] = Unit {0}
Distinct (name ∷ names) = Apart names name × Distinct names

-- ---- names that are not bound again

not_among : (names : List (List ℕ)) (name : List ℕ) → is_among names name ≡ false → Apart names name
not_among [] name e = tt
not_among (other ∷ names) name e = by (bytes_eq name other) refl e (not_among names name)
  where
    by : (b : Bool) → bytes_eq name other ≡ b → (b || is_among names name) ≡ false → (is_among names name ≡ false → Apart names name) → Apart (other ∷ names) name
    by true e e' later = absurd (cc)
    by false e e' later = (λ same. let found = (bytes_eq-Decides name other).1 same in absurd (cc), later e')

none_told : (b : Bool) (line : ℕ) (more : List ℕ) → line_if b line ++ more ≡ [] → (b ≡ false) × (more ≡ [])
none_told true line more e = absurd (cc)
none_told false line more e = (refl, e)

pub not_again : (names : List (List ℕ)) (bs : List Bound) → bound_again names bs ≡ [] → AllByRecursion (Apart names) (names_of bs) × Distinct (names_of bs)
not_again names [] e = (tt, tt)
not_again names (b ∷ bs) e =
    let told = none_told (is_among names b.name) b.line (bound_again (names ++ b.name ∷ []) bs) e in
    let rest = not_again (names ++ b.name ∷ []) bs told.1 in
    let last = λ (n : List ℕ) (h : Apart (names ++ b.name ∷ []) n). λ (same : b.name ≡ n). (all_back (Differs n) names (b.name ∷ []) h).0 (sym same) in (
      (not_among names b.name told.0, all_also (Apart (names ++ b.name ∷ [])) (Apart names) (λ n h. all_front (Differs n) names (b.name ∷ []) h) (names_of bs) rest.0),
      (all_also (Apart (names ++ b.name ∷ [])) (Differs b.name) last (names_of bs) rest.0, rest.1),
    )

-- ---- a module that is accepted

abbrev Silent : Module → Row → Type 0
Silent m row = row.1 m ≡ []

neither : (a b : Option (ℕ × Construct)) → earlier a b ≡ None → (a ≡ None) × (b ≡ None)
neither None b e = (refl, e)
neither (Some a) None e = absurd (cc)
neither (Some a) (Some b) e = by (nat_lt b.0 a.0) e
  where
    by : (w : Bool) → (if w then Some b else Some a) ≡ None → (Some a ≡ None) × (Some b ≡ None)
    by true e = absurd (cc)
    by false e = absurd (cc)

no_line : (construct : Construct) (lines : List ℕ) → fault_of construct (least lines) ≡ None → lines ≡ []
no_line construct [] e = refl
no_line construct (line ∷ lines) e = by (least lines) e
  where
    by : (other : Option ℕ) → fault_of construct (least_with line other) ≡ None → line ∷ lines ≡ []
    by None e = absurd (cc)
    by (Some other) e = absurd (cc)

rows_silent : (m : Module) (rs : List Row) → first_fault rs m ≡ None → AllByRecursion (Silent m) rs
rows_silent m [] e = tt
rows_silent m (row ∷ more) e =
    let none = neither (fault_of row.0 (least (row.1 m))) (first_fault more m) e in
    (no_line row.0 (row.1 m) none.0, rows_silent m more none.1)

front_empty : (xs ys : List ℕ) → xs ++ ys ≡ [] → xs ≡ []
front_empty [] ys e = refl
front_empty (x ∷ xs) ys e = absurd (cc)

pub accepted_distinct : (m : Module) → refusal m ≡ None → Distinct (module_names m.items)
accepted_distinct m e =
    let silent = rows_silent m rows e in
    let bounds = flat_map bound_by_item m.items in
    let again = bound_again [] bounds in
    let built = flat_map bound_built bounds in
    (not_again [] bounds (front_empty again built (front_empty (again ++ built) (flat_map again_in_class m.items) silent.1.1.1.1.1.0))).1
