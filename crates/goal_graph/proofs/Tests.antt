-- Numbers that are equal, or are not.
use Rattle.std.proofs.Common.{◌≡◌, ℕ, Bool, true, false, arith, refl}
use Rattle.std.proofs.lemmas.Bool.{eqb-true, eq-eqb}
use Rattle.std.proofs.lemmas.Bool.Decides.{nat_tests}
use Rattle.std.specs.Ordering.{is_eq, nat_cmp}
use Rattle.std.specs.Prelude.{◌==◌}

pub same : (a : ℕ) → (a == a) ≡ true
same a = eq-eqb a a refl

pub is_same : (a b : ℕ) → (a == b) ≡ true → a ≡ b
is_same a b h = eqb-true a b h

pub swapped : (a b : ℕ) → (a == b) ≡ (b == a)
swapped a b = grind (arith, nat_tests)

pub compared : (a b : ℕ) → is_eq (nat_cmp a b) ≡ (a == b)
compared a b = grind (arith, nat_tests)

-- a test that is true or false
pub decided : (C : Type 0) (b : Bool) → (b ≡ true → C) → (b ≡ false → C) → C
decided C true f g = f refl
decided C false f g = g refl

pub differ : (a b : ℕ) → (a == b) ≡ false → a ≡ b → ⊥
differ a b h e = let same : (a == b) ≡ true = eq-eqb a b e in absurd (cc)
