-- A write to the second part of a pair.
use Rattle.std.proofs.Common.{◌≡◌, ℕ, zero, suc, List, [], ◌∷◌, ap, refl}
use Rattle.std.specs.Prelude.{slice_index_or, slice_set}
use Rattle.py_meaning.specs.Lists.{with_second}

pub set_is_with_second : {A B : Type 0} (xs : List (A × B)) (at : ℕ) (pair : A × B) (b : B) → pair ≡ slice_index_or xs at pair → slice_set xs at (pair.0, b) ≡ with_second xs at b
set_is_with_second [] at pair b e = refl
set_is_with_second (x ∷ xs) zero pair b e = ap (λ (p : _). (p.0, b) ∷ xs) e
set_is_with_second (x ∷ xs) (suc at) pair b e = ap (λ ys. x ∷ ys) (set_is_with_second xs at pair b e)
