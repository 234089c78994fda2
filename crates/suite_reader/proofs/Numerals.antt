-- Numbers of variables, as they are spelled.
use Rattle.std.proofs.Common.{◌≡◌, ◌∙◌, refl, sym, ap, subst, ℕ, ◌<◌, ◌≤◌, ◌^◌, ◌-◌, Bool, true, false, List, [], ◌∷◌, length, Some, None, take, drop, arith}
use Rattle.std.specs.Prelude.{◌&&◌, ◌||◌, ◌==◌, if◌then◌else◌, nat_lt, min, not, codes, chars, encode_utf8_all, bytes_eq, Err}
use Rattle.std.specs.Str.{all_ascii_digits, IsAscii}
use Rattle.std.specs.Str.Parse.{digits_value, ParsesUnsigned}
use Rattle.std.proofs.Math.Nat.{min-eq_right}
use Rattle.std.proofs.lemmas.Bool.Decides.{nat_tests}
use Rattle.std.proofs.lemmas.Fmt.{IsAscii-from_digits}
use Rattle.std.proofs.lemmas.List.{take-append-drop}
use Rattle.std.proofs.lemmas.Slice.Eq.{bytes_eq-Decides}
use Rattle.std.proofs.lemmas.Str.{IsAscii-append, chars-IsAscii, encodes-IsAscii}
use Rattle.std.proofs.lemmas.Str.Ascii.{IsAscii-nil, IsAscii-cons}
use Rattle.std.proofs.lemmas.Str.Parse.{IsNumeralModel, numerals_by_value, tells_all_ascii_digits, parse_digits}
use Rattle.suite_file.specs.Spelled.{is_empty, is_numeral, numeral, variable_named, beyond, zero_code}

own : IsNumeralModel (λ ds. all_ascii_digits ds ≡ true) (digits_value 10)
own = numerals_by_value (λ ds. all_ascii_digits ds ≡ true) tells_all_ascii_digits

left_of : (a b : Bool) → (a && b) ≡ true → a ≡ true
left_of true b e = refl
left_of false b e = e

right_of : (a b : Bool) → (a && b) ≡ true → b ≡ true
right_of true b e = e
right_of false b e = absurd (cc)

digits_of : (text : List ℕ) → is_numeral text ≡ true → all_ascii_digits text ≡ true
digits_of [] e = refl
digits_of (c ∷ digits) e = left_of (all_ascii_digits (c ∷ digits)) (not (c == zero_code) || is_empty digits) e

some_digit : (text : List ℕ) → is_numeral text ≡ true → 0 < length text
some_digit [] e = absurd (cc)
some_digit (c ∷ digits) e = omega arith

-- ---- the number that is read of one that is too great

capped : (v : ℕ) (b : Bool) → nat_lt v (2 ^ 32) ≡ b → (v < 2 ^ 32 → ⊥) → min v beyond ≡ 2 ^ 32 - 1
capped v true e never = let small : v < 2 ^ 32 = grind (arith, nat_tests) in absurd (never small)
capped v false e never = let large : 2 ^ 32 - 1 ≤ v = grind (arith, nat_tests) in min-eq_right large

numeral_is : (text : List ℕ) → is_numeral text ≡ true → numeral text ≡ Some (min (digits_value 10 text) beyond)
numeral_is text test = ap (λ (b : Bool). if b then Some (min (digits_value 10 text) beyond) else None) test

pub too_great : {E : Type 0} (text : List ℕ) (e : E) → ParsesUnsigned {E = E} 32 10 text (Err e) → is_numeral text ≡ true → Some (2 ^ 32 - 1) ≡ numeral text
too_great text e parsed test =
    let none = parse_digits own 32 text (Err e) parsed (digits_of text test) in
    let value = digits_value 10 text in
    sym (numeral_is text test ∙ ap Some (capped value (nat_lt value (2 ^ 32)) refl (λ small. none (some_digit text test, small))))

-- ---- names by their bytes

spells : List ℕ → Bool
spells x = bytes_eq (take 4 x) (codes "var_") && is_numeral (drop 4 x)

front_ascii : IsAscii (codes "var_")
front_ascii = IsAscii-cons 118 (codes "ar_") (omega arith) (IsAscii-cons 97 (codes "r_") (omega arith) (IsAscii-cons 114 (codes "_") (omega arith) (IsAscii-cons 95 [] (omega arith) IsAscii-nil)))

ascii : (x : List ℕ) → spells x ≡ true → IsAscii x
unfolding spells
ascii x e =
    let front : take 4 x ≡ codes "var_" = grind (arith, bytes_eq-Decides, left_of (bytes_eq (take 4 x) (codes "var_")) (is_numeral (drop 4 x)) e) in
    let back = IsAscii-from_digits (drop 4 x) (own.to (drop 4 x) (digits_of (drop 4 x) (right_of (bytes_eq (take 4 x) (codes "var_")) (is_numeral (drop 4 x)) e))) in
    subst IsAscii (take-append-drop 4 x) (IsAscii-append (take 4 x) (drop 4 x) (subst IsAscii (sym front) front_ascii) back)

none_by : (a b : Bool) (n : ℕ) → (a && b) ≡ false → (if a then (if b then Some n else None) else None) ≡ None
none_by true true n e = absurd (cc)
none_by true false n e = refl
none_by false b n e = refl

none : (x : List ℕ) → spells x ≡ false → variable_named x ≡ None
unfolding spells
none x e = none_by (bytes_eq (take 4 x) (codes "var_")) (is_numeral (drop 4 x)) (min (digits_value 10 (drop 4 x)) beyond) e

by_cases : (name bytes : List ℕ) → chars bytes ≡ name → bytes ≡ encode_utf8_all name → (a b : Bool) → spells bytes ≡ a → spells name ≡ b → variable_named bytes ≡ variable_named name
by_cases name bytes as_chars as_bytes true b e f = ap variable_named (sym (chars-IsAscii bytes (ascii bytes e)) ∙ as_chars)
by_cases name bytes as_chars as_bytes false true e f = ap variable_named (as_bytes ∙ encodes-IsAscii name (ascii name f))
by_cases name bytes as_chars as_bytes false false e f = none bytes e ∙ sym (none name f)

-- A name spells a variable as its bytes do.
pub by_bytes : (name bytes : List ℕ) → chars bytes ≡ name → bytes ≡ encode_utf8_all name → variable_named bytes ≡ variable_named name
by_bytes name bytes as_chars as_bytes = by_cases name bytes as_chars as_bytes (spells bytes) (spells name) refl refl
