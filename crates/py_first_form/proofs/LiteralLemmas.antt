use Rattle.std.proofs.Common.{◌≡◌, refl, ap, ◌∙◌, ℕ, ◌+◌, ◌*◌, ◌^◌, ◌≤◌, ◌<◌, Bool, true, false, nat_le, List, [], ◌∷◌, length, get_or, add-one, arith}
use Rattle.std.specs.List.{list_all}
use Rattle.std.specs.Char.{is_ascii_digit, is_ascii_lowercase}
use Rattle.std.specs.Str.{IsAscii}
use Rattle.std.proofs.lemmas.Str.Ascii.{IsAscii-nil, IsAscii-cons}
use Rattle.std.proofs.lemmas.Bool.Decides.{nat_tests}
use Rattle.std.proofs.lemmas.Bool.{and_parts, leb-true, both_ways}
use Rattle.std.proofs.lemmas.List.Folds.{list_all_at}
use Rattle.std.proofs.Math.Nat.{pow-le-pow_right, pow-suc}
use Rattle.py_language.specs.FirstForm.{is_number, is_plain, is_name}

-- ---- numbers

-- a number has at most 19 digits
pub few_digits : (text : List ℕ) → is_number text ≡ true → length text ≤ 19
few_digits [] e = omega arith
few_digits (first ∷ rest) e =
    let short : length rest ≤ 18 = leb-true _ _ (and_parts _ _ e).1 in omega arith

all_digits : (text : List ℕ) → is_number text ≡ true → list_all is_ascii_digit text ≡ true
all_digits [] e = refl
all_digits (first ∷ rest) e = (and_parts _ _ (and_parts _ _ e).0).0

-- each is one
pub digit_at : (text : List ℕ) (i : ℕ) → is_number text ≡ true → i < length text → is_ascii_digit (get_or text i 0) ≡ true
digit_at text i e h = by (is_ascii_digit (get_or text i 0)) refl
  where
    by : (t : Bool) → is_ascii_digit (get_or text i 0) ≡ t → t ≡ true
    by true d = refl
    by false d = absurd (both_ways _ (list_all_at is_ascii_digit text i 0 h d) (all_digits text e))

-- one more digit keeps a number below the power of ten
pub one_more_digit : (number digit i : ℕ) → number < 10 ^ i → digit < 10 → 10 * number + digit < 10 ^ (i + 1)
one_more_digit number digit i h d =
    let power : 10 ^ (i + 1) ≡ 10 ^ i * 10 = ap (λ n. 10 ^ n) (add-one i) ∙ pow-suc 10 i in omega (arith, power)

pub within_64_bits : (number i : ℕ) → number < 10 ^ i → i ≤ 18 → number < 10 ^ 18
within_64_bits number i h l = let power : 10 ^ i ≤ 10 ^ 18 = pow-le-pow_right {n = 10} (omega arith) l in omega (arith, power)

-- ---- strings

plain_is_ascii : (c : ℕ) → is_plain c ≡ true → c < 128
plain_is_ascii c e =
    let below : nat_le c 126 ≡ true = (and_parts _ _ (and_parts _ _ (and_parts _ _ e).0).0).1 in
    let most : c ≤ 126 = leb-true c 126 below in omega arith

pub plain_are_ascii : (text : List ℕ) → list_all is_plain text ≡ true → IsAscii text
plain_are_ascii [] e = IsAscii-nil
plain_are_ascii (c ∷ text) e = IsAscii-cons c text (plain_is_ascii c (and_parts _ _ e).0) (plain_are_ascii text (and_parts _ _ e).1)

-- ---- names

digit_is_ascii : (c : ℕ) → is_ascii_digit c ≡ true → c < 128
digit_is_ascii c e = grind (arith, nat_tests)

digits_are_ascii : (text : List ℕ) → list_all is_ascii_digit text ≡ true → IsAscii text
digits_are_ascii [] e = IsAscii-nil
digits_are_ascii (c ∷ text) e = IsAscii-cons c text (digit_is_ascii c (and_parts _ _ e).0) (digits_are_ascii text (and_parts _ _ e).1)

letter_is_ascii : (c : ℕ) → is_ascii_lowercase c ≡ true → c < 128
letter_is_ascii c e = grind (arith, nat_tests)

pub name_is_ascii : (name : List ℕ) → is_name name ≡ true → IsAscii name
name_is_ascii [] e = IsAscii-nil
name_is_ascii (c ∷ rest) e = IsAscii-cons c rest (letter_is_ascii c (and_parts _ _ e).0) (digits_are_ascii rest (and_parts _ _ e).1)
