-- Classes of bytes, each told by a test of all 256.
use Rattle.std.proofs.Common.{◌≡◌, ◌∙◌, ap, refl, ℕ, zero, suc, ◌<◌, ◌≤◌, Bool, true, false, ◌&&◌, not, ⊎_elim, arith}
use Rattle.std.proofs.str.Laws.{order}

pub and_both : (a b : Bool) → (a && b) ≡ true → (a ≡ true) × (b ≡ true)
and_both true b e = (refl, e)
and_both false b e = absurd (cc)

abbrev pub all_below : ℕ → (ℕ → Bool) → Bool
all_below zero p = true
all_below (suc n) p = p n && all_below n p

pub below_get : (n : ℕ) (p : ℕ → Bool) → all_below n p ≡ true → (k : ℕ) → k < n → p k ≡ true
below_get zero p h k lt = absurd (omega arith)
below_get (suc n) p h k lt =
    let two = and_both (p n) (all_below n p) h in
    ⊎_elim
    (λ (less : k < n). below_get n p two.1 k less)
    (λ (ge : n ≤ k). let e : k ≡ n = omega arith in ap p e ∙ two.0)
    (order k n)

exclusive_by : (a b : Bool) → not (a && b) ≡ true → a ≡ true → b ≡ false
exclusive_by true false h e = refl
exclusive_by true true h e = absurd (cc)
exclusive_by false b h e = absurd (cc)

pub exclusive : (p q : ℕ → Bool) → all_below 256 (λ d. not (p d && q d)) ≡ true → (c : ℕ) → c < 256 → p c ≡ true → q c ≡ false
exclusive p q t c lt e = exclusive_by (p c) (q c) (below_get 256 (λ d. not (p d && q d)) t c lt) e
