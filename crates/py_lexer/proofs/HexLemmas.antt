-- Hexadecimal digits and characters that are not ASCII, as the code meets them.
use Rattle.std.proofs.Common.{◌≡◌, ◌∙◌, sym, ap, refl, ℕ, zero, suc, ◌+◌, ◌-◌, ◌*◌, ◌<◌, ◌^◌, Bool, true, false, cond, List, [], ◌∷◌, length, take, Option, Some, None, IsUtf8, arith}
use Rattle.std.specs.Char.{digit_value}
use Rattle.std.specs.Str.{is_utf8}
use Rattle.std.proofs.lemmas.Str.{is_utf8-from_IsUtf8, IsUtf8-from_is_utf8}
use Rattle.std.proofs.Math.Numerals.{one-add}
use Rattle.std.proofs.lemmas.Bool.Decides.{nat_tests}
use Rattle.py_language.specs.TokensCharacters.{more_bytes}
use Rattle.py_language.specs.TokensNumbers.{is_digit_below}
use Rattle.py_language.specs.TokensStrings.{hex_value}
use Rattle.py_lexer.specs.Scan.{front_of}

pub front_is : (text more : List ℕ) (b n : ℕ) → text ≡ b ∷ more → take n more ≡ more_bytes b more → take (1 + n) text ≡ front_of text
front_is text more b n e f = ap (take (1 + n)) e ∙ (ap (λ k. take k (b ∷ more)) (one-add n) ∙ (ap (λ xs. b ∷ xs) f ∙ ap front_of (sym e)))

pub is_front : (xs ys : List ℕ) → xs ≡ ys → IsUtf8 xs → is_utf8 ys ≡ true
is_front xs ys e u = ap is_utf8 (sym e) ∙ is_utf8-from_IsUtf8 xs u

not_front_by : (b : Bool) (xs : List ℕ) → (IsUtf8 xs → ⊥) → is_utf8 xs ≡ b → b ≡ false
not_front_by true xs none e = absurd (none (IsUtf8-from_is_utf8 xs e))
not_front_by false xs none e = refl

pub no_front : (xs ys : List ℕ) → xs ≡ ys → (IsUtf8 xs → ⊥) → is_utf8 ys ≡ false
no_front xs ys e none = ap is_utf8 (sym e) ∙ not_front_by (is_utf8 xs) xs none refl

next_left : (n i : ℕ) → i < n → n - i ≡ suc (n - (i + 1))
next_left n i lt = omega arith

pub hex_step : (n i v b : ℕ) (rest more : List ℕ) (x : Option ℕ) → i < n → rest ≡ b ∷ more → is_digit_below 16 b ≡ true → hex_value (n - i) v rest ≡ x → hex_value (n - (i + 1)) (v * 16 + digit_value b) more ≡ x
hex_step n i v b rest more x lt e d same =
    sym (ap (λ t. cond t (hex_value (n - (i + 1)) (v * 16 + digit_value b) more) None) d) ∙ (ap (λ k. hex_value k v (b ∷ more)) (sym (next_left n i lt)) ∙ (ap (hex_value (n - i) v) (sym e) ∙ same))

pub hex_stops : (n i v b : ℕ) (rest more : List ℕ) (x : Option ℕ) → i < n → rest ≡ b ∷ more → is_digit_below 16 b ≡ false → hex_value (n - i) v rest ≡ x → None ≡ x
hex_stops n i v b rest more x lt e d same =
    sym (ap (λ t. cond t (hex_value (n - (i + 1)) (v * 16 + digit_value b) more) None) d) ∙ (ap (λ k. hex_value k v (b ∷ more)) (sym (next_left n i lt)) ∙ (ap (hex_value (n - i) v) (sym e) ∙ same))

nothing_left : (n i v : ℕ) → i < n → hex_value (n - i) v [] ≡ None
nothing_left n i v lt = ap (λ k. hex_value k v []) (next_left n i lt)

pub hex_ends : (n i v : ℕ) (rest : List ℕ) (x : Option ℕ) → i < n → length rest ≡ 0 → hex_value (n - i) v rest ≡ x → None ≡ x
hex_ends n i v [] x lt e same = sym (nothing_left n i v lt) ∙ same
hex_ends n i v (b ∷ more) x lt e same = absurd (omega arith)

pub hex_all : (n v : ℕ) (rest : List ℕ) (x : Option ℕ) (i : ℕ) → i ≡ n → hex_value (n - i) v rest ≡ x → Some v ≡ x
hex_all n v rest x i e same = let k : n - i ≡ 0 = omega arith in ap (λ m. hex_value m v rest) (sym k) ∙ same

pub hex_small : (i v : ℕ) → i < 4 → v < 16 ^ i → v < 4096
hex_small zero v lt h = omega arith
hex_small (suc zero) v lt h = omega arith
hex_small (suc (suc zero)) v lt h = omega arith
hex_small (suc (suc (suc zero))) v lt h = omega arith
hex_small (suc (suc (suc (suc i)))) v lt h = absurd (omega arith)

pub hex_grows : (i v b : ℕ) → i < 4 → v < 16 ^ i → is_digit_below 16 b ≡ true → v * 16 + digit_value b < 16 ^ (i + 1)
hex_grows i v b lt h d = grows i v (digit_value b) lt h (grind (arith, nat_tests))
  where
    grows : (i v d : ℕ) → i < 4 → v < 16 ^ i → d < 16 → v * 16 + d < 16 ^ (i + 1)
    grows zero v d lt h s = omega arith
    grows (suc zero) v d lt h s = omega arith
    grows (suc (suc zero)) v d lt h s = omega arith
    grows (suc (suc (suc zero))) v d lt h s = omega arith
    grows (suc (suc (suc (suc i)))) v d lt h s = absurd (omega arith)
