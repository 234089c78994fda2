-- Digits, one at a time.
use Rattle.std.proofs.Common.{◌≡◌, ◌∙◌, sym, ap, refl, ℕ, suc, ◌+◌, ◌*◌, ◌<◌, ◌≤◌, ◌^◌, Bool, true, false, cond, List, [], ◌∷◌, length, drop, drop-cons, get_or, Some, None, nat_lt, arith}
use Rattle.std.specs.Prelude.{◌==◌, if◌then◌else◌}
use Rattle.std.specs.Char.{digit_value}
use Rattle.std.proofs.Math.Nat.{mul-le-mul_left}
use Rattle.std.proofs.lemmas.Bool.Decides.{nat_tests}
use Rattle.py_language.specs.TokensNumbers.{number_from}
use Rattle.py_lexer.specs.Scan.{in_width, next_value}

grows_by : (b : Bool) (base n d : ℕ) → 0 < base → n ≤ cond b n (n * base + d)
grows_by true base n d lo = omega arith
grows_by false base n d lo = omega (arith, mul-le-mul_left n lo)

number_from-ge : (base n : ℕ) (ds : List ℕ) → 0 < base → n ≤ number_from base n ds
number_from-ge base n [] lo = omega arith
number_from-ge base n (c ∷ cs) lo =
    let ih = number_from-ge base (next_value base n c) cs lo in
    let step : n ≤ next_value base n c = grows_by (c == 95) base n (digit_value c) lo in
    omega arith

too_large : (n : ℕ) → in_width n ≡ None → 2 ^ 127 ≤ n
too_large n e = too_large_by (nat_lt n (2 ^ 127)) refl e
  where
    too_large_by : (b : Bool) → nat_lt n (2 ^ 127) ≡ b → (if b then Some n else None) ≡ None → 2 ^ 127 ≤ n
    too_large_by true t e = absurd (cc)
    too_large_by false t e = grind (arith, nat_tests)

none_above : (n : ℕ) → 2 ^ 127 ≤ n → in_width n ≡ None
none_above n h = let t : nat_lt n (2 ^ 127) ≡ false = grind (arith, nat_tests) in rw t refl

-- a number that is too large already has no digits after it that make it smaller
pub stays_large : (base n i : ℕ) (ds : List ℕ) → 0 < base → i < length ds → None ≡ in_width (next_value base n (get_or ds i 0)) → number_from base n (drop i ds) ≡ number_from base 0 ds → None ≡ in_width (number_from base 0 ds)
stays_large base n i ds lo lt is same =
    let next = next_value base n (get_or ds i 0) in
    let large : 2 ^ 127 ≤ next = too_large next (sym is) in
    let ge : next ≤ number_from base next (drop (suc i) ds) = number_from-ge base next (drop (suc i) ds) lo in
    let step : number_from base next (drop (suc i) ds) ≡ number_from base 0 ds = sym (ap (number_from base n) (drop-cons ds i 0 lt)) ∙ same in
    sym (none_above (number_from base 0 ds) (omega arith))
