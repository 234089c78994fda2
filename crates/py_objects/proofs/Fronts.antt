-- Facts on what is done part by part.
use Rattle.std.proofs.Common.{◌≡◌, suc, List, [], ◌∷◌, length, map, ap, refl, Bool, true, false, ◌&&◌}
use Rattle.py_meaning.specs.declared.value.Value.{Value}
use Rattle.py_meaning.specs.Keys.{all_agree}

no_and : (b : Bool) → false ≡ b && false
no_and true = refl
no_and false = refl

-- tuples of two lengths don't agree
pub uneven : (f : Value → Value → Bool) (xs ys : List Value) → ((length xs ≡ length ys) → ⊥) → false ≡ all_agree (map f xs) ys
uneven f [] [] h = absurd (h refl)
uneven f [] (y ∷ ys) h = refl
uneven f (x ∷ xs) [] h = refl
uneven f (x ∷ xs) (y ∷ ys) h = let rest = uneven f xs ys (λ e. h (ap suc e)) in rw (← rest) (no_and (f x y))
