-- What is inside a string, item by item, over bytes.
use Rattle.std.proofs.Common.{◌≡◌, ◌∙◌, sym, ap, refl, ℕ, zero, suc, ◌+◌, ◌*◌, ◌<◌, ◌≤◌, Bool, true, false, cond, List, [], ◌∷◌, ◌++◌, length, drop, Some, None, Ok, Err, append_assoc, append-nil, zero-add, arith}
use Rattle.std.specs.Prelude.{◌==◌, nat_lt}
use Rattle.std.specs.List.{list_all}
use Rattle.std.specs.Char.{digit_value}
use Rattle.std.specs.Str.{all_scalars}
use lib.Utf8.{scalar}
use Rattle.std.proofs.lemmas.Bool.Decides.{nat_tests}
use Rattle.pyn_base.specs.declared.construct.Construct.{Construct}
use Rattle.py_language.specs.TokensCharacters.{begins, not_utf8, decoded_behind}
use Rattle.py_language.specs.TokensNumbers.{is_digit_below}
use Rattle.py_language.specs.TokensStrings.{refused, hex_value, Content, behind, lines_on, content_behind}
use Rattle.py_lexer.specs.Scan.{content_of}
use Rattle.py_lexer.proofs.DecodeLemmas.{is_high, decoded_ascii, decoded_begins}
use Rattle.py_lexer.proofs.ClassLemmas.{and_both}

-- ---- contents

pub lines_on-zero : (r : Content) → lines_on 0 r ≡ r
lines_on-zero (Ok cs) = refl
lines_on-zero (Err e) = ap (λ n. let f : ℕ × Construct = (n, e.1) in Err f) (zero-add e.0)

behind-lines_on : (xs : List ℕ) (n : ℕ) (r : Content) → behind xs (lines_on n r) ≡ lines_on n (behind xs r)
behind-lines_on xs n (Ok cs) = refl
behind-lines_on xs n (Err e) = refl

behind-append : (xs ys : List ℕ) (r : Content) → behind xs (behind ys r) ≡ behind (xs ++ ys) r
behind-append xs ys (Ok cs) = ap (λ zs. Ok zs) (sym (append_assoc xs ys cs))
behind-append xs ys (Err e) = refl

lines_on-add : (m n : ℕ) (r : Content) → lines_on m (lines_on n r) ≡ lines_on (m + n) r
lines_on-add m n (Ok cs) = refl
lines_on-add m n (Err e) = ap (λ k. let f : ℕ × Construct = (k, e.1) in Err f) (omega arith)

-- what is read so far, and an item more
pub content_more : (xs ys : List ℕ) (m n : ℕ) (r : Content) → behind xs (lines_on m (behind ys (lines_on n r))) ≡ behind (xs ++ ys) (lines_on (m + n) r)
content_more xs ys m n r =
    ap (λ s. behind xs (lines_on m s)) (behind-lines_on ys n r) ∙ (ap (behind xs) (lines_on-add m n (behind ys r))
    ∙ (ap (behind xs) (sym (behind-lines_on ys (m + n) r)) ∙ behind-append xs ys (lines_on (m + n) r)))

pub content_fails : (xs : List ℕ) (m : ℕ) (f : Construct) → behind xs (lines_on m (Err (0, f))) ≡ Err (m, f)
content_fails xs m f = ap (λ n. let e : ℕ × Construct = (n, f) in Err e) (omega arith)

pub content_drop : (n : ℕ) (cs : List ℕ) → content_behind n cs ≡ content_behind 0 (drop n cs)
content_drop zero cs = refl
content_drop (suc n) [] = refl
content_drop (suc n) (c ∷ cs) = content_drop n cs

pub content_plain : (c : ℕ) (cs : List ℕ) → (c == 92) ≡ false → (c == 10) ≡ false → refused c ≡ None → content_behind 0 (c ∷ cs) ≡ behind (c ∷ []) (content_behind 0 cs)
content_plain c cs b n r = rw (b, n, r) (ap (behind (c ∷ [])) (lines_on-zero (content_behind 0 cs)))

pub not_bad : (c : ℕ) → scalar c ≡ true → (c == not_utf8) ≡ false
not_bad c s = bad_by (c == not_utf8) refl
  where
    bad_by : (v : Bool) → (c == not_utf8) ≡ v → v ≡ false
    bad_by false t = refl
    bad_by true t = let is : c ≡ not_utf8 = grind (arith, nat_tests) in let wrong : scalar not_utf8 ≡ true = ap scalar (sym is) ∙ s in absurd (cc)

high_plain : (c : ℕ) (cs : List ℕ) → is_high c ≡ true → scalar c ≡ true → content_behind 0 (c ∷ cs) ≡ behind (c ∷ []) (content_behind 0 cs)
high_plain c cs h s =
    let a : (c == 13) ≡ false = grind (arith, nat_tests) in
    let b : (c == 12) ≡ false = grind (arith, nat_tests) in
    let not_refused : refused c ≡ None = rw (not_bad c s, a, b) refl in
    content_plain c cs (grind (arith, nat_tests)) (grind (arith, nat_tests)) not_refused

behind-nil : (r : Content) → behind [] r ≡ r
behind-nil (Ok cs) = refl
behind-nil (Err e) = refl

pub content_high : (xs rest : List ℕ) → list_all is_high xs ≡ true → all_scalars xs ≡ true → content_behind 0 (xs ++ rest) ≡ behind xs (content_behind 0 rest)
content_high [] rest h s = sym (behind-nil (content_behind 0 rest))
content_high (c ∷ cs) rest h s =
    let high = and_both (is_high c) (list_all is_high cs) h in
    let good = and_both (scalar c) (all_scalars cs) s in
    high_plain c (cs ++ rest) high.0 good.0 ∙ (ap (behind (c ∷ [])) (content_high cs rest high.1 good.1) ∙ behind-append (c ∷ []) cs (content_behind 0 rest))

-- ---- hexadecimal digits

high_digit : (c : ℕ) → is_high c ≡ true → is_digit_below 16 c ≡ false
high_digit c h =
    let a : nat_lt c 48 ≡ false = grind (arith, nat_tests) in
    let b : nat_lt c 58 ≡ false = grind (arith, nat_tests) in
    let d : nat_lt c 65 ≡ false = grind (arith, nat_tests) in
    let e : nat_lt c 91 ≡ false = grind (arith, nat_tests) in
    let f : nat_lt c 97 ≡ false = grind (arith, nat_tests) in
    let g : nat_lt c 123 ≡ false = grind (arith, nat_tests) in
    rw (a, b, d, e, f, g) refl

digit_low : (c : ℕ) → is_digit_below 16 c ≡ true → c < 128
digit_low c t = low_by (is_high c) refl
  where
    low_by : (v : Bool) → is_high c ≡ v → c < 128
    low_by true h = let wrong = high_digit c h in absurd (cc)
    low_by false h = grind (arith, nat_tests)

hex_none : (n v : ℕ) (cs : List ℕ) → begins (is_digit_below 16) cs ≡ false → hex_value (suc n) v cs ≡ None
hex_none n v [] e = refl
hex_none n v (c ∷ cs) e = rw e refl

pub hex_same : (n v : ℕ) (cs : List ℕ) → hex_value n v (decoded_behind 0 cs) ≡ hex_value n v cs
hex_same zero v cs = refl
hex_same (suc n) v [] = hex_none n v (decoded_behind 0 []) (decoded_begins (is_digit_below 16) high_digit [])
hex_same (suc n) v (c ∷ cs) = same_by (is_digit_below 16 c) refl (hex_same n (v * 16 + digit_value c) cs)
  where
    same_by : (t : Bool) → is_digit_below 16 c ≡ t → hex_value n (v * 16 + digit_value c) (decoded_behind 0 cs) ≡ hex_value n (v * 16 + digit_value c) cs
        → hex_value (suc n) v (decoded_behind 0 (c ∷ cs)) ≡ hex_value (suc n) v (c ∷ cs)
    same_by true e ih = ap (hex_value (suc n) v) (decoded_ascii c cs (digit_low c e)) ∙ ap (λ r. cond (is_digit_below 16 c) r None) ih
    same_by false e ih = hex_none n v (decoded_behind 0 (c ∷ cs)) (decoded_begins (is_digit_below 16) high_digit (c ∷ cs) ∙ e) ∙ sym (hex_none n v (c ∷ cs) e)

pub hex_drop : (n v w : ℕ) (cs : List ℕ) → hex_value n v cs ≡ Some w → (drop n (decoded_behind 0 cs) ≡ decoded_behind 0 (drop n cs)) × (n ≤ length cs)
hex_drop zero v w cs e = (refl, omega arith)
hex_drop (suc n) v w [] e = absurd (cc)
hex_drop (suc n) v w (c ∷ cs) e = drop_by (is_digit_below 16 c) refl e (hex_drop n (v * 16 + digit_value c) w cs)
  where
    drop_by : (t : Bool) → is_digit_below 16 c ≡ t → cond t (hex_value n (v * 16 + digit_value c) cs) None ≡ Some w
        → (hex_value n (v * 16 + digit_value c) cs ≡ Some w → (drop n (decoded_behind 0 cs) ≡ decoded_behind 0 (drop n cs)) × (n ≤ length cs)) → (drop (suc n) (decoded_behind 0 (c ∷ cs)) ≡ decoded_behind 0 (drop n cs)) × (suc n ≤ suc (length cs))
    drop_by true d e ih = let two = ih e in (ap (drop (suc n)) (decoded_ascii c cs (digit_low c d)) ∙ two.0, omega (arith, two.1))
    drop_by false d e ih = absurd (cc)

pub content_all : (all rest : List ℕ) (n : ℕ) (x : Content) → length rest ≡ 0 → behind all (lines_on n (content_of rest)) ≡ x → Ok all ≡ x
content_all all [] n x e same = ap (λ ys. Ok ys) (sym (append-nil all)) ∙ same
content_all all (b ∷ more) n x e same = absurd (omega arith)
