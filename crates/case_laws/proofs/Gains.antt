-- The numbers of the goals that a trail takes, and the goals at these places.
use Rattle.std.proofs.Common.{◌≡◌, ◌<◌, ℕ, zero, suc, ◌+◌, ◌||◌, Bool, true, false, List, [], ◌∷◌, refl, sym, ap, subst, ◌∙◌, Some, arith}
use Rattle.std.proofs.lemmas.Bool.{eq-eqb, eqb-true}
use Rattle.std.specs.List.{list_any}
use Rattle.std.specs.Prelude.{if◌then◌else◌, slice_get, ◌==◌}
use Rattle.py_plain.specs.Tests.{Trail}
use Rattle.goal_model.specs.Goals.{Goal}
use Rattle.goal_model.specs.Taken.{is_taken}
use Rattle.suite_model.specs.Kept.{taken_from}

abbrev pub is_in : List ℕ → ℕ → Bool
is_in taken number = list_any (λ c. c == number) taken

differ_by : (b : Bool) → (b ≡ true → ⊥) → b ≡ false
differ_by true h = absurd (h refl)
differ_by false h = refl

before : (n k : ℕ) → n < k → (n == k) ≡ false
before n k less = differ_by (n == k) (λ same. let is = eqb-true n k same in omega (arith, is, less))

after : (n k : ℕ) → k < n → (n == k) ≡ false
after n k less = differ_by (n == k) (λ same. let is = eqb-true n k same in omega (arith, is, less))

-- one number more, or not, which is another
others : (b : Bool) (n k : ℕ) (rest : List ℕ) → (n == k) ≡ false → is_in (if b then n ∷ rest else rest) k ≡ is_in rest k
others true n k rest apart = ap (λ is. is || is_in rest k) apart
others false n k rest apart = refl

first : (b : Bool) (n k : ℕ) (rest : List ℕ) → (n == k) ≡ true → is_in rest k ≡ false → is_in (if b then n ∷ rest else rest) k ≡ b
first true n k rest same none = ap (λ is. is || is_in rest k) same
first false n k rest same none = none

module _ (trail : Trail) where
  none_below : (n k : ℕ) (goals : List Goal) → k < n → is_in (taken_from n trail goals) k ≡ false
  none_below n k [] less = refl
  none_below n k (goal ∷ goals) less =
      others (is_taken trail goal) n k (taken_from (n + 1) trail goals) (after n k less) ∙ none_below (n + 1) k goals (omega (arith, less))

  taken_from_at : (n i : ℕ) (goals : List Goal) (goal : Goal) → slice_get goals i ≡ Some goal → is_taken trail goal ≡ is_in (taken_from n trail goals) (n + i)
  taken_from_at n i [] goal is = absurd (cc)
  taken_from_at n zero (other ∷ goals) goal is =
      let same : other ≡ goal = cc in
      ap (is_taken trail) (sym same) ∙ sym (first (is_taken trail other) n (n + 0) (taken_from (n + 1) trail goals) (eq-eqb n (n + 0) (omega arith)) (none_below (n + 1) (n + 0) goals (omega arith)))
  taken_from_at n (suc i) (other ∷ goals) goal is =
      let at : (n + 1) + i ≡ n + suc i = omega arith in
      subst (λ k. is_taken trail goal ≡ is_in (taken_from (n + 1) trail goals) k) at (taken_from_at (n + 1) i goals goal is)
      ∙ sym (others (is_taken trail other) n (n + suc i) (taken_from (n + 1) trail goals) (before n (n + suc i) (omega arith)))

  pub taken_at : (number : ℕ) (goals : List Goal) (goal : Goal) → slice_get goals number ≡ Some goal → is_taken trail goal ≡ is_in (taken_from 0 trail goals) number
  taken_at number goals goal is = let at : 0 + number ≡ number = omega arith in subst (λ k. is_taken trail goal ≡ is_in (taken_from 0 trail goals) k) at (taken_from_at 0 number goals goal is)
