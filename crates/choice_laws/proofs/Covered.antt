-- Numbers that others cover.
use Rattle.std.proofs.Common.{◌≡◌, ℕ, Bool, true, false, not, ◌||◌, List, [], ◌∷◌, ◌++◌, refl, sym, subst, inl, inr}
use Rattle.std.proofs.lemmas.Bool.{eq-eqb, eqb-true, false≢true, not-false, not-true, not_from_false, or_cases, or_left, or_parts, or_right}
use Rattle.std.proofs.lemmas.List.Folds.{list_any-append}
use Rattle.std.specs.Prelude.{◌==◌}
use Rattle.chosen_tests.specs.Chosen.{has_new, holds}

pub or_assoc : (a b c : Bool) → ((a || b) || c) ≡ (a || (b || c))
or_assoc true b c = refl
or_assoc false b c = refl

-- what is in one of the others anyway adds nothing
pub or_absorbs : (a b c : Bool) → (b ≡ true → (a || c) ≡ true) → (a || (b || c)) ≡ (a || c)
or_absorbs true b c h = refl
or_absorbs false false c h = refl
or_absorbs false true c h = sym (h refl)

pub or_more : (a b c : Bool) → (a || c) ≡ true → ((a || b) || c) ≡ true
or_more true b c h = refl
or_more false true c h = refl
or_more false false c h = h

pub holds-append : (xs ys : List ℕ) (n : ℕ) → holds (xs ++ ys) n ≡ (holds xs n || holds ys n)
holds-append xs ys n = list_any-append (λ c. c == n) xs ys

-- where none is new, each is covered
pub none_new : (covered xs : List ℕ) (n : ℕ) → has_new covered xs ≡ false → holds xs n ≡ true → holds covered n ≡ true
none_new covered [] n none is = absurd (false≢true is)
none_new covered (x ∷ xs) n none is =
    let parts = or_parts (not (holds covered x)) (has_new covered xs) none in
    elim (or_cases (x == n) (holds xs n) is) [
      | inl same ↦ subst (λ y. holds covered y ≡ true) (eqb-true x n same) (not-false (holds covered x) parts.0)
      | inr later ↦ none_new covered xs n parts.1 later
    ]

pub one_new : (covered xs : List ℕ) → has_new covered xs ≡ true → (n : ℕ) × (holds xs n ≡ true) × (holds covered n ≡ false)
one_new covered [] some = absurd (false≢true some)
one_new covered (x ∷ xs) some =
    elim (or_cases (not (holds covered x)) (has_new covered xs) some) [
      | inl new ↦ (x, or_left (x == x) (holds xs x) (eq-eqb x x refl), not-true (holds covered x) new)
      | inr later ↦ (let found = one_new covered xs later in (found.0, or_right (x == found.0) (holds xs found.0) found.1, found.2))
    ]

pub is_new : (covered xs : List ℕ) (n : ℕ) → holds xs n ≡ true → holds covered n ≡ false → has_new covered xs ≡ true
is_new covered [] n is none = absurd (false≢true is)
is_new covered (x ∷ xs) n is none =
    elim (or_cases (x == n) (holds xs n) is) [
      | inl same ↦ or_left (not (holds covered x)) (has_new covered xs) (not_from_false (holds covered x) (subst (λ y. holds covered y ≡ false) (sym (eqb-true x n same)) none))
      | inr later ↦ or_right (not (holds covered x)) (has_new covered xs) (is_new covered xs n later none)
    ]
