-- The last of a list, by its place.
use Rattle.std.proofs.Common.{◌≡◌, suc, ◌-◌, List, [], ◌∷◌, length, slice_get, refl, sym, ap, ◌∙◌, arith}
use Rattle.py_plain.specs.Exceptions.{last_of}

pub last_at : {A : Type 0} (xs : List A) → slice_get xs (length xs - 1) ≡ last_of xs
last_at [] = refl
last_at (x ∷ []) = refl
last_at (x ∷ y ∷ more) =
    let e : length (x ∷ y ∷ more) - 1 ≡ suc (length more) = omega arith in
    let f : length (y ∷ more) - 1 ≡ length more = omega arith in
    ap (slice_get (x ∷ y ∷ more)) e ∙ ap (slice_get (y ∷ more)) (sym f) ∙ last_at (y ∷ more)
