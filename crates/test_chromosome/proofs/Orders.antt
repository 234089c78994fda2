-- A class and those above it, one class on.
use Rattle.std.proofs.Common.{◌≡◌, ℕ, zero, suc, ◌-◌, List, [], ◌∷◌, map, Bool, false, refl, arith}
use Rattle.std.specs.List.{list_any}
use Rattle.std.specs.Prelude.{slice_get}
use Rattle.pyn_base.specs.declared.class.BuiltClass.{BuiltClass}
use Rattle.pyn_base.specs.declared.class.ClassId.{ClassId}
use Rattle.pyn_base.specs.declared.class.ClassId.TheVariants.{Built, Own}
use Rattle.py_plain.specs.BuiltNames.{built_bases}
use Rattle.py_plain.specs.Classes.{order_within, base_of_info}
use Rattle.py_plain.specs.Program.{Program}
use Rattle.test_chromosome.specs.Calls.{class_has}

pub order_step : (program : Program) (left k : ℕ) (test : ClassId → Bool) → (left ≡ 0 → ⊥) → test (Own k) ≡ false
    → list_any test (order_within program (left - 1) (base_of_info (slice_get program.classes k))) ≡ list_any test (order_within program left (Own k))
order_step program zero k test filled other = absurd (filled refl)
order_step program (suc n) k test filled other = let e : suc n - 1 ≡ n = omega arith in rw (e, other) refl

none_built : (program : Program) (name : List ℕ) (classes : List BuiltClass) → list_any (class_has program name) (map Built classes) ≡ false
none_built program name [] = refl
none_built program name (class ∷ classes) = none_built program name classes

-- no built-in class is one of the module
pub built_order : (program : Program) (name : List ℕ) (left : ℕ) (class : BuiltClass) → list_any (class_has program name) (order_within program left (Built class)) ≡ false
built_order program name zero class = none_built program name (class ∷ built_bases class)
built_order program name (suc left) class = none_built program name (class ∷ built_bases class)
