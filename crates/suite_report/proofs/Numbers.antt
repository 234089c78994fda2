-- The number that a word is.
use Rattle.std.proofs.Common.{◌≡◌, ℕ, ◌<◌, ◌^◌, Bool, true, false, cond, ltb, ◌&&◌, List, Some, None, decimal, refl, ap, ◌∙◌, arith, bytes_eq}
use Rattle.std.specs.Str.Parse.{digits_value}
use Rattle.std.proofs.lemmas.Bool.{ltb-true, lt-ltb, and_parts}
use Rattle.std.proofs.lemmas.Fmt.{decimal_is_IsNumeral}
use Rattle.std.proofs.lemmas.Slice.Eq.{bytes_eq-Decides}
use Rattle.report_model.specs.Fields.{number_by, number_of}

by_test : (n : ℕ) (digits : List ℕ) (b : Bool) → (ltb n (2 ^ 32) && bytes_eq digits (decimal n)) ≡ b → ((k : ℕ) → k < 2 ^ 32 → digits ≡ decimal k → ⊥) → cond b (Some n) None ≡ None
by_test n digits true e none =
    let both = and_parts (ltb n (2 ^ 32)) (bytes_eq digits (decimal n)) e in
    absurd (none n (ltb-true n (2 ^ 32) both.0) ((bytes_eq-Decides digits (decimal n)).0 both.1))
by_test n digits false e none = refl

-- a word as which no number is written
pub no_number : (digits : List ℕ) → ((k : ℕ) → k < 2 ^ 32 → digits ≡ decimal k → ⊥) → number_of digits ≡ None
unfolding number_of
no_number digits none = by_test (digits_value 10 digits) digits _ refl none

-- a word as which a number is written
pub a_number : (digits : List ℕ) (n : ℕ) → n < 2 ^ 32 → digits ≡ decimal n → number_of digits ≡ Some n
unfolding number_of
a_number digits n lt e =
    let value : digits_value 10 (decimal n) ≡ n = (decimal_is_IsNumeral n (omega arith)).1 in
    ap number_of e ∙ ap (λ k. number_by k (decimal n)) value ∙ rw (lt-ltb n (2 ^ 32) lt, (bytes_eq-Decides (decimal n) (decimal n)).1 refl) refl
