-- What is left of a list, by its next item.
use Rattle.std.proofs.Common.{◌≡◌, ℕ, ◌+◌, List, ◌∷◌, drop, Some, slice_get, ap, ◌∙◌, sym}
use Rattle.std.proofs.lemmas.List.{at_drop_more, drop_all}
use Rattle.std.proofs.lemmas.Option.{slice_get_within, get_or_from_slice_get}

pub first_left : {A : Type 0} (xs : List A) (at : ℕ) (x : A) → Some x ≡ slice_get xs at → drop at xs ≡ x ∷ drop (at + 1) xs
first_left xs at x h = at_drop_more (λ ys. ys) xs at x (slice_get_within xs at x (sym h)) ∙ ap (λ y. y ∷ drop (at + 1) xs) (get_or_from_slice_get xs at x x (sym h))

pub ruleset tails = (first_left, drop_all)
