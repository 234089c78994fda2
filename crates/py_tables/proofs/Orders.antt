-- A class and those above it, one class on.
use Rattle.std.proofs.Common.{◌≡◌, ℕ, zero, suc, ◌-◌, false, refl, arith}
use Rattle.std.specs.List.{list_any}
use Rattle.std.specs.Prelude.{slice_get}
use Rattle.pyn_base.specs.declared.class.ClassId.{ClassId}
use Rattle.pyn_base.specs.declared.class.ClassId.TheVariants.{Own}
use Rattle.py_meaning.specs.Values.{same_class}
use Rattle.py_plain.specs.Classes.{order_within, base_of_info}
use Rattle.py_plain.specs.Program.{Program}

pub order_step : (program : Program) (left k : ℕ) (above : ClassId) → (left ≡ 0 → ⊥) → same_class above (Own k) ≡ false
    → list_any (same_class above) (order_within program (left - 1) (base_of_info (slice_get program.classes k))) ≡ list_any (same_class above) (order_within program left (Own k))
order_step program zero k above filled other = absurd (filled refl)
order_step program (suc n) k above filled other = let e : suc n - 1 ≡ n = omega arith in rw (e, other) refl
