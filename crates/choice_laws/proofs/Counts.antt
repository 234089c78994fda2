-- How many of a list pass one test, and how many another that passes more.
use Rattle.std.proofs.Common.{◌≡◌, ◌<◌, ◌≤◌, ◌+◌, ℕ, zero, suc, Bool, true, false, ◌||◌, cond, List, [], ◌∷◌, map, refl, ap, ◌∙◌, arith, Some}
use Rattle.std.proofs.lemmas.Bool.{false≢true}
use Rattle.std.proofs.lemmas.List.Folds.{fold-map}
use Rattle.std.proofs.lemmas.List.Sums.{sum_by-cons}
use Rattle.std.specs.List.{list_any, position_from}
use Rattle.std.specs.Option.{option_map}
use Rattle.std.specs.Prelude.{count_by, is_some, slice_get}

abbrev one_if : Bool → ℕ
one_if b = cond b 1 0

one-le : (a b : Bool) → (a ≡ true → b ≡ true) → one_if a ≤ one_if b
one-le false b h = omega arith
one-le true true h = omega arith
one-le true false h = absurd (false≢true (h refl))

one-lt : (a b : Bool) → a ≡ false → b ≡ true → one_if a < one_if b
one-lt a b none some = omega (arith, ap one_if none, ap one_if some)

module _ {A : Type 0} where
  -- at each place that passes the first test the second one passes too
  abbrev pub Implies : (A → Bool) → (A → Bool) → List A → Type 0
  Implies p q xs = (n : ℕ) (x : A) → slice_get xs n ≡ Some x → p x ≡ true → q x ≡ true

  count-cons : (p : A → Bool) (x : A) (xs : List A) → count_by p (x ∷ xs) ≡ one_if (p x) + count_by p xs
  count-cons p x xs = sum_by-cons (λ y. one_if (p y)) x xs

  count-le : (p q : A → Bool) (xs : List A) → Implies p q xs → count_by p xs ≤ count_by q xs
  count-le p q [] h = omega arith
  count-le p q (x ∷ xs) h = omega (arith, count-cons p x xs, count-cons q x xs, one-le (p x) (q x) (h 0 x refl), count-le p q xs (λ n. h (suc n)))

  -- and at one place the second one alone does
  pub count-lt : (p q : A → Bool) (xs : List A) → Implies p q xs → (n : ℕ) (x : A) → slice_get xs n ≡ Some x → p x ≡ false → q x ≡ true → count_by p xs < count_by q xs
  count-lt p q [] h n x at none some = absurd (cc)
  count-lt p q (y ∷ xs) h zero x at none some =
      let same : y ≡ x = cc in
      omega (arith, count-cons p y xs, count-cons q y xs, one-lt (p y) (q y) (ap p same ∙ none) (ap q same ∙ some), count-le p q xs (λ k. h (suc k)))
  count-lt p q (y ∷ xs) h (suc n) x at none some =
      omega (arith, count-cons p y xs, count-cons q y xs, one-le (p y) (q y) (h 0 y refl), count-lt p q xs (λ k. h (suc k)) n x at none some)

  pub is_some-position : {B : Type 0} (f : ℕ → B) (p : A → Bool) (k : ℕ) (xs : List A) → is_some (option_map f (position_from p k xs)) ≡ list_any p xs
  is_some-position f p k [] = refl
  is_some-position f p k (x ∷ xs) = found (p x) (is_some-position f p (k + 1) xs)
    where
      found : (b : Bool) → is_some (option_map f (position_from p (k + 1) xs)) ≡ list_any p xs
          → is_some (option_map f (cond b (Some k) (position_from p (k + 1) xs))) ≡ (b || list_any p xs)
      found true h = refl
      found false h = h

pub count-map : {A B : Type 0} (p : B → Bool) (f : A → B) (xs : List A) → count_by p (map f xs) ≡ count_by (λ x. p (f x)) xs
count-map p f xs = fold-map (λ n y. n + one_if (p y)) f 0 xs
