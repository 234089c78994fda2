-- What a test of several parts tells of each.
use Rattle.std.proofs.Common.{Bool, Option, Some, ap, false, refl, true, ◌&&◌, ◌∙◌, ◌≡◌}
use Rattle.suite_file.specs.Spelled.{◌>>=◌}

pub and_both : (v w : Bool) → (v && w) ≡ true → (v ≡ true) × (w ≡ true)
and_both true w e = (refl, e)
and_both false w e = absurd (cc)

pub and_intro : (v w : Bool) → v ≡ true → w ≡ true → (v && w) ≡ true
and_intro v w h k = rw (h, k) refl

-- what is found, and what comes of it
pub after_found : {A B : Type 0} (o : Option A) (f : A → Option B) (a : A) (z : Option B) → o ≡ Some a → f a ≡ z → (o >>= f) ≡ z
after_found o f a z e h = ap (λ p. p >>= f) e ∙ h
