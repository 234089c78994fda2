-- The least of lines, one line more.
use Rattle.std.proofs.Common.{◌≡◌, ◌∙◌, refl, sym, ap, ℕ, ◌+◌, ◌<◌, min, List, [], ◌∷◌, ◌++◌, Option, Some, None, take, length, get_or, arith}
use Rattle.std.proofs.lemmas.List.{take_more}
use Rattle.py_scopes.specs.Refusals.{least, least_with}

swapped : (x y : ℕ) (rest : Option ℕ) → least_with y (least_with x rest) ≡ least_with x (least_with y rest)
swapped x y None = ap Some (min_swap y x)
  where
    min_swap : (a b : ℕ) → min a b ≡ min b a
    min_swap a b = omega arith
swapped x y (Some z) = ap Some (min_three y x z)
  where
    min_three : (a b c : ℕ) → min a (min b c) ≡ min b (min a c)
    min_three a b c = omega arith

least_push : (xs : List ℕ) (x : ℕ) → least (xs ++ x ∷ []) ≡ least_with x (least xs)
least_push [] x = refl
least_push (y ∷ xs) x = ap (least_with y) (least_push xs x) ∙ swapped x y (least xs)

pub least_more : (xs : List ℕ) (i : ℕ) (x found : ℕ) (first : Option ℕ) → i < length xs → x ≡ get_or xs i 0 → first ≡ least (take i xs) → Some found ≡ least_with x first
    → Some found ≡ least (take (i + 1) xs)
least_more xs i x found first lt is before e =
    e ∙ ap (least_with x) before ∙ sym (least_push (take i xs) x) ∙ ap (λ y. least (take i xs ++ y ∷ [])) is ∙ ap least (sym (take_more xs i 0 lt))
