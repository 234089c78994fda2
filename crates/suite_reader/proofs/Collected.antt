-- What a loop has collected, and what is still to come.
use Rattle.std.proofs.Common.{◌≡◌, ◌∙◌, refl, sym, ap, ℕ, ◌+◌, ◌<◌, ◌≤◌, List, [], ◌∷◌, ◌++◌, length, map, get_or, drop, append_assoc, append-nil, Option, Some, None}
use Rattle.std.proofs.lemmas.List.{at_drop_more, at_drop_all}
use Rattle.suite_file.specs.Spelled.{◌>>=◌, all_of}

abbrev pub after_front : {A : Type 0} → List A → Option (List A) → Option (List A)
after_front front None = None
after_front front (Some more) = Some (front ++ more)

pub from_nothing : {A : Type 0} (o : Option (List A)) → after_front [] o ≡ o
from_nothing None = refl
from_nothing (Some more) = refl

next : {A : Type 0} (front : List A) (a : A) (o : Option (List A)) → after_front (front ++ a ∷ []) o ≡ after_front front (o >>= λ more. Some (a ∷ more))
next front a None = refl
next front a (Some more) = ap Some (append_assoc front (a ∷ []) more)

module _ {X A : Type 0} (f : X → Option A) (xs : List X) (i : ℕ) (x : X) (front : List A) (so_far : after_front front (all_of (map f (drop i xs))) ≡ all_of (map f xs)) where
  more : i < length xs → x ≡ get_or xs i x → after_front front (f x >>= λ a. all_of (map f (drop (i + 1) xs)) >>= λ rest. Some (a ∷ rest)) ≡ all_of (map f xs)
  more within is = ap (λ y. after_front front (f y >>= λ a. all_of (map f (drop (i + 1) xs)) >>= λ rest. Some (a ∷ rest))) is
      ∙ ap (λ ys. after_front front (all_of (map f ys))) (sym (at_drop_more (λ ys. ys) xs i x within))
      ∙ so_far

  pub one_more : (a : A) → i < length xs → x ≡ get_or xs i x → f x ≡ Some a → after_front (front ++ a ∷ []) (all_of (map f (drop (i + 1) xs))) ≡ all_of (map f xs)
  one_more a within is found = next front a (all_of (map f (drop (i + 1) xs)))
      ∙ sym (ap (λ o. after_front front (o >>= λ a. all_of (map f (drop (i + 1) xs)) >>= λ rest. Some (a ∷ rest))) found)
      ∙ more within is

  pub not_all : i < length xs → x ≡ get_or xs i x → f x ≡ None → None ≡ all_of (map f xs)
  not_all within is found = sym (ap (λ o. after_front front (o >>= λ a. all_of (map f (drop (i + 1) xs)) >>= λ rest. Some (a ∷ rest))) found) ∙ more within is

pub all_done : {X A : Type 0} (f : X → Option A) (xs : List X) (i : ℕ) (front : List A) → after_front front (all_of (map f (drop i xs))) ≡ all_of (map f xs) → length xs ≤ i → Some front ≡ all_of (map f xs)
all_done f xs i front so_far past = sym (ap Some (append-nil front)) ∙ sym (at_drop_all (λ ys. after_front front (all_of (map f ys))) xs i past) ∙ so_far
