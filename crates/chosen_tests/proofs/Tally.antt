-- Counts that rise and sink.
use Rattle.std.proofs.Common.{◌≡◌, ◌≢◌, ℕ, ◌+◌, ◌<◌, ◌≤◌, Bool, true, false, not, cond, ◌||◌, eqb, zero, suc, List, [], ◌∷◌, ◌++◌, refl, ap, sym, ◌∙◌, subst, inl, inr, length, get_or, set, take, arith, get_or-set_other, get_or-set_same}
use Rattle.std.proofs.lemmas.Bool.{cases_eq, eq-eqb, ne_eqb}
use Rattle.std.proofs.lemmas.List.{take_more}
use Rattle.std.proofs.lemmas.List.Sums.{sum_by-append, sum_by-cons, sum_by-take-le}
use Rattle.chosen_tests.specs.Chosen.{has_new, holds}
use Rattle.chosen_tests.specs.Counting.{Counted, Rose, Settles, lacks, times}

pub get_or_push_zero : (xs : List ℕ) (x : ℕ) → get_or (xs ++ 0 ∷ []) x 0 ≡ get_or xs x 0
get_or_push_zero [] zero = refl
get_or_push_zero [] (suc x) = refl
get_or_push_zero (y ∷ xs) zero = refl
get_or_push_zero (y ∷ xs) (suc x) = get_or_push_zero xs x

pub times-append : (x : ℕ) (xs ys : List ℕ) → times x (xs ++ ys) ≡ times x xs + times x ys
times-append x xs ys = sum_by-append (λ y. cond (eqb y x) 1 0) xs ys

times-cons : (x y : ℕ) (xs : List ℕ) → times x (y ∷ xs) ≡ cond (eqb y x) 1 0 + times x xs
times-cons x y xs = sum_by-cons (λ z. cond (eqb z x) 1 0) y xs

pub times_more : (x : ℕ) (xs : List ℕ) (i : ℕ) → i < length xs → times x (take (i + 1) xs) ≡ times x (take i xs) + times x (get_or xs i 0 ∷ [])
times_more x xs i h = ap (times x) (take_more xs i 0 h) ∙ times-append x (take i xs) (get_or xs i 0 ∷ [])

times-one_same : (x : ℕ) → times x (x ∷ []) ≡ 1
times-one_same x = ap (λ b. 0 + cond b 1 0) (eq-eqb x x refl)

times-one_other : (x y : ℕ) → (y ≡ x → ⊥) → times x (y ∷ []) ≡ 0
times-one_other x y h = ap (λ b. 0 + cond b 1 0) (ne_eqb y x h)

-- a write of one more
pub rose_set : (xs : List ℕ) (i n : ℕ) → i < length xs → n ≡ get_or xs i 0 + 1 → Rose xs (set xs i n) (i ∷ [])
rose_set xs i n h e = record {
  by_times = λ x. elim (cases_eq x i) [
    | inl same ↦ subst (λ (z : ℕ). get_or (set xs i n) z 0 ≡ get_or xs z 0 + times z (i ∷ [])) (sym same) (omega (arith, get_or-set_same xs i n 0 h, times-one_same i, e))
    | inr other ↦ (let ne : x ≢ i = other in omega (arith, get_or-set_other xs i x n 0 ne, times-one_other x i (λ q. other (sym q))))
  ];
}

-- a write of one less
pub rose_unset : (xs : List ℕ) (i n : ℕ) → i < length xs → n + 1 ≡ get_or xs i 0 → Rose (set xs i n) xs (i ∷ [])
rose_unset xs i n h e = record {
  by_times = λ x. elim (cases_eq x i) [
    | inl same ↦ subst (λ (z : ℕ). get_or xs z 0 ≡ get_or (set xs i n) z 0 + times z (i ∷ [])) (sym same) (omega (arith, get_or-set_same xs i n 0 h, times-one_same i, e))
    | inr other ↦ (let ne : x ≢ i = other in omega (arith, get_or-set_other xs i x n 0 ne, times-one_other x i (λ q. other (sym q))))
  ];
}

pub rose_from : (old mid new : List ℕ) (xs : List ℕ) → ((x : ℕ) → get_or mid x 0 ≡ get_or old x 0) → Rose mid new xs → Rose old new xs
rose_from old mid new xs same rose = record { by_times = λ x. omega (arith, same x, rose.by_times x) }

pub rose_none : (xs : List ℕ) → Rose xs xs []
rose_none xs = record { by_times = λ x. omega arith }

pub rose_more : (old mid new : List ℕ) (xs : List ℕ) (i : ℕ) → i < length xs → Rose old mid (take i xs) → Rose mid new (get_or xs i 0 ∷ []) → Rose old new (take (i + 1) xs)
rose_more old mid new xs i h a b = record { by_times = λ x. omega (arith, times_more x xs i h, a.by_times x, b.by_times x) }

pub sank_more : (old mid new : List ℕ) (xs : List ℕ) (i : ℕ) → i < length xs → Rose mid old (take i xs) → Rose new mid (get_or xs i 0 ∷ []) → Rose new old (take (i + 1) xs)
sank_more old mid new xs i h a b = record { by_times = λ x. omega (arith, times_more x xs i h, a.by_times x, b.by_times x) }

times_take-le : (x : ℕ) (xs : List ℕ) (i : ℕ) → times x (take i xs) ≤ times x xs
times_take-le x xs i = sum_by-take-le (λ y. cond (eqb y x) 1 0) xs i

-- what is still counted of a list of which a part was taken away
pub counted_next : (old mid : List ℕ) (xs : List ℕ) (i : ℕ) → i < length xs → Rose mid old (take i xs) → ((x : ℕ) → times x xs ≤ get_or old x 0) → 0 < get_or mid (get_or xs i 0) 0
counted_next old mid xs i h rose enough =
    let x : ℕ = get_or xs i 0 in
    omega (arith, times_more x xs i h, times-one_same x, times_take-le x xs (i + 1), rose.by_times x, enough x)

-- ---- what the counts of a list tell of it

-- a number is in a list exactly where it is there at least once
none_holds : (xs : List ℕ) (x : ℕ) → eqb (times x xs) 0 ≡ not (holds xs x)
none_holds [] x = refl
none_holds (y ∷ xs) x = ap (λ n. eqb n 0) (times-cons x y xs) ∙ step (eqb y x) (times x xs) (holds xs x) (none_holds xs x)
  where
    step : (b : Bool) (n : ℕ) (r : Bool) → eqb n 0 ≡ not r → eqb (cond b 1 0 + n) 0 ≡ not (b || r)
    step true n r e = ne_eqb (1 + n) 0 (λ z. omega (arith, z))
    step false n r e = ap (λ k. eqb k 0) (omega arith) ∙ e

pub lacks_new : (counts covered : List ℕ) → Counted counts covered → (xs : List ℕ) → lacks counts xs ≡ has_new covered xs
lacks_new counts covered c [] = refl
lacks_new counts covered c (x ∷ xs) =
    ap (λ b. b || lacks counts xs) (ap (λ n. eqb n 0) (c.each x) ∙ none_holds covered x)
    ∙ ap (λ b. not (holds covered x) || b) (lacks_new counts covered c xs)

pub counted_nil : (counts : List ℕ) → counts ≡ [] → Counted counts []
counted_nil counts e = record { each = λ x. ap (λ t. get_or t x 0) e }

pub counted_more : (old new covered xs : List ℕ) → Counted old covered → Rose old new xs → Counted new (covered ++ xs)
counted_more old new covered xs c r = record { each = λ x. omega (arith, c.each x, r.by_times x, times-append x covered xs) }

counted_less : (old new rest xs : List ℕ) → Counted old (rest ++ xs) → Rose new old xs → Counted new rest
counted_less old new rest xs c r = record { each = λ x. omega (arith, c.each x, r.by_times x, times-append x rest xs) }

pub counted_enough : (counts rest xs : List ℕ) → Counted counts (rest ++ xs) → (x : ℕ) → times x xs ≤ get_or counts x 0
counted_enough counts rest xs c x = omega (arith, c.each x, times-append x rest xs)

pub settles_gone : (old new xs : List ℕ) → Rose new old xs → lacks new xs ≡ false → Settles old new xs false
settles_gone old new xs r none = record {
  answer = λ rest c. sym none ∙ lacks_new new rest (counted_less old new rest xs c r) xs;
  left = λ rest c. counted_less old new rest xs c r;
}

pub settles_stays : (old mid new xs : List ℕ) → Rose mid old xs → lacks mid xs ≡ true → Rose mid new xs → Settles old new xs true
settles_stays old mid new xs r some back = record {
  answer = λ rest c. sym some ∙ lacks_new mid rest (counted_less old mid rest xs c r) xs;
  left = λ rest c. counted_more mid new rest xs (counted_less old mid rest xs c r) back;
}
