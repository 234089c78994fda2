-- The one name that a test sees beside its variables.
use Rattle.std.proofs.Common.{◌≡◌, ℕ, Bool, true, false, List, [], ◌∷◌, Option, Some, None, refl, sym, ap, ◌∙◌}
use Rattle.std.proofs.lemmas.Bool.Decides.{same_from_decides}
use Rattle.std.proofs.lemmas.Iterator.Adapters.{position_from-zero}
use Rattle.std.proofs.lemmas.Slice.Eq.{bytes_eq-Decides}
use Rattle.std.specs.Option.{option_map}
use Rattle.std.specs.Prelude.{bytes_eq, codes, cond, if◌then◌else◌}
use Rattle.py_meaning.specs.declared.value.Value.{Value}
use Rattle.py_meaning.specs.declared.value.Value.TheVariants as v
use Rattle.py_meaning.specs.Values.{at_place}
use Rattle.py_meaning.specs.Worlds.{Attributes}
use Rattle.py_plain.specs.Names.{lookup, is_bound, is_some}

abbrev rows : Attributes
rows = (codes "module_0", v.ModuleRef) ∷ []

swapped : (xs ys : List ℕ) → bytes_eq xs ys ≡ bytes_eq ys xs
swapped xs ys = let d = bytes_eq-Decides ys xs in same_from_decides (bytes_eq xs ys) (bytes_eq ys xs) (bytes_eq-Decides xs ys) (λ e. sym (d.0 e), λ p. d.1 (sym p))

value_by_test : (b : Bool) → option_map (λ (row : List ℕ × Value). row.1) (at_place rows (cond b (Some 0) None)) ≡ (if b then Some v.ModuleRef else None)
value_by_test true = refl
value_by_test false = refl

bound_by_test : (b : Bool) → is_some {A = ℕ} (cond b (Some 0) None) ≡ b
bound_by_test true = refl
bound_by_test false = refl

abbrev test : List ℕ → List ℕ × Value → Bool
test name row = bytes_eq row.0 name

pub only_row : (name : List ℕ) → lookup name ((codes "module_0", v.ModuleRef) ∷ []) ≡ (if bytes_eq name (codes "module_0") then Some v.ModuleRef else None)
only_row name = ap (λ (at : Option ℕ). option_map (λ (row : List ℕ × Value). row.1) (at_place rows at)) (position_from-zero (test name) rows)
    ∙ value_by_test (bytes_eq (codes "module_0") name) ∙ ap (λ (b : Bool). if b then Some v.ModuleRef else None) (swapped (codes "module_0") name)

pub only_name : (name : List ℕ) → is_bound name ((codes "module_0", v.ModuleRef) ∷ []) ≡ bytes_eq name (codes "module_0")
only_name name = ap is_some (position_from-zero (test name) rows) ∙ bound_by_test (bytes_eq (codes "module_0") name) ∙ swapped (codes "module_0") name

pub ruleset module_names = (only_row, only_name)
