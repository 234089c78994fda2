-- Tuples of so many levels.
use Rattle.std.proofs.Common.{◌≡◌, ℕ, zero, suc, max, true, ◌&&◌, ◌==◌, nat_le, refl, ◌∙◌, ap, arith, [], ◌∷◌}
use Rattle.std.proofs.lemmas.Bool.Decides.{nat_tests}
use Rattle.py_meaning.specs.declared.value.Value.TheVariants.{outs-Int}
use Rattle.py_meaning.specs.Tuples.{depth, depth_by}
use Rattle.py_meaning.specs.Worlds.{sound}
use Rattle.py_meaning.specs.Folds.{sound-out, tuple-out}
use Rattle.py_meaning.specs.Examples.{nested}

nested_depth : (n : ℕ) → depth (nested n) ≡ n
nested_depth zero = ap depth_by (outs-Int _)
nested_depth (suc n) = ap depth_by (tuple-out (nested n ∷ [])) ∙ ap (λ d. suc (max d 0)) (nested_depth n) ∙ grind arith

one_more : (n : ℕ) → ((nat_le n 50 && true) && (suc (max n 0) == suc (max n 0) && nat_le (suc (max n 0)) 50)) ≡ nat_le (suc n) 50
one_more n = grind (arith, nat_tests)

-- exactly those of up to fifty levels are sound
pub nested_sound : (n : ℕ) → sound [] (nested n) ≡ nat_le n 50
nested_sound zero = sound-out [] (nested zero) ∙ rw (outs-Int _) refl
nested_sound (suc n) = sound-out [] (nested (suc n)) ∙ rw (tuple-out (nested n ∷ []), nested_sound n, nested_depth n) (one_more n)
