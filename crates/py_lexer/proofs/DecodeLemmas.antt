-- Decoding, one character at a time, and the characters that are not ASCII.
use Rattle.std.proofs.Common.{◌≡◌, ◌∙◌, sym, ap, refl, ℕ, zero, suc, ◌+◌, ◌<◌, Bool, true, false, cond, ◌&&◌, List, [], ◌∷◌, ◌++◌, length, take, drop, min, chars, encode_utf8, encode_utf8_all, IsAscii, arith}
use Rattle.std.specs.Prelude.{nat_le, nat_lt, take_while}
use Rattle.std.specs.List.{prefix_len, list_all}
use Rattle.std.specs.Str.{is_utf8, all_scalars, continuation_len}
use Rattle.std.proofs.lemmas.Str.{is_utf8-from_IsUtf8, IsUtf8-from_is_utf8, IsUtf8-from_ascii, chars-IsAscii, chars-encodes, encode_ascii}
use Rattle.std.proofs.lemmas.List.{take_min}
use Rattle.std.proofs.lemmas.List.Folds.{list_all-append}
use Rattle.std.proofs.lemmas.Bool.Decides.{nat_tests}
use Rattle.std.proofs.Math.Numerals.{one-add}
use Rattle.py_language.specs.TokensCharacters.{begins, more_bytes, is_character, not_utf8, decoded_behind}
use Rattle.py_lexer.proofs.ClassLemmas.{and_both}

abbrev pub is_high : ℕ → Bool
is_high c = nat_le 128 c

pub decoded_drop : (n : ℕ) (bs : List ℕ) → decoded_behind n bs ≡ decoded_behind 0 (drop n bs)
decoded_drop zero bs = refl
decoded_drop (suc n) [] = refl
decoded_drop (suc n) (b ∷ bs) = decoded_drop n bs

-- ---- ASCII

one_ascii : (b : ℕ) → b < 128 → IsAscii (b ∷ [])
one_ascii b lt zero = lt
one_ascii b lt (suc i) = omega arith

no_more : (b : ℕ) (bs : List ℕ) → b < 128 → more_bytes b bs ≡ []
no_more b bs lt = let t : nat_lt b 128 ≡ true = grind (arith, nat_tests) in rw t refl

decoded_by : (b : ℕ) (bs more : List ℕ) (v : Bool) → more_bytes b bs ≡ more → is_utf8 (b ∷ more) ≡ v
    → decoded_behind 0 (b ∷ bs) ≡ cond v (chars (b ∷ more)) (not_utf8 ∷ []) ++ decoded_behind (cond v (length more) 0) bs
decoded_by b bs more v e t =
    let chosen : is_character b bs ≡ v = ap (λ xs. is_utf8 (b ∷ xs)) e ∙ t in
    ap (λ w. cond w (chars (b ∷ more_bytes b bs)) (not_utf8 ∷ []) ++ decoded_behind (cond w (length (more_bytes b bs)) 0) bs) chosen
    ∙ ap (λ xs. cond v (chars (b ∷ xs)) (not_utf8 ∷ []) ++ decoded_behind (cond v (length xs) 0) bs) e

pub decoded_ascii : (b : ℕ) (bs : List ℕ) → b < 128 → decoded_behind 0 (b ∷ bs) ≡ b ∷ decoded_behind 0 bs
decoded_ascii b bs lt =
    decoded_by b bs [] true (no_more b bs lt) (is_utf8-from_IsUtf8 (b ∷ []) (IsUtf8-from_ascii (b ∷ []) (one_ascii b lt)))
    ∙ ap (λ cs. cs ++ decoded_behind 0 bs) (chars-IsAscii (b ∷ []) (one_ascii b lt))

pub decoded_wide : (b : ℕ) (bs : List ℕ) → is_utf8 (b ∷ more_bytes b bs) ≡ true → decoded_behind 0 (b ∷ bs) ≡ chars (b ∷ more_bytes b bs) ++ decoded_behind 0 (drop (length (more_bytes b bs)) bs)
decoded_wide b bs t = decoded_by b bs (more_bytes b bs) true refl t ∙ ap (λ cs. chars (b ∷ more_bytes b bs) ++ cs) (decoded_drop (length (more_bytes b bs)) bs)

pub decoded_bad : (b : ℕ) (bs : List ℕ) → is_utf8 (b ∷ more_bytes b bs) ≡ false → decoded_behind 0 (b ∷ bs) ≡ not_utf8 ∷ decoded_behind 0 bs
decoded_bad b bs f = decoded_by b bs (more_bytes b bs) false refl f

-- ---- the bytes after a first byte

-- those of the class among the first m are the first m of those of the class
front_by : (p : ℕ → Bool) (m : ℕ) (xs : List ℕ) → take (prefix_len p (take m xs)) xs ≡ take m (take_while p xs)
front_by p zero xs = refl
front_by p (suc m) [] = refl
front_by p (suc m) (x ∷ xs) = by (p x) (front_by p m xs)
  where
    by : (v : Bool) → take (prefix_len p (take m xs)) xs ≡ take m (take_while p xs) → take (cond v (1 + prefix_len p (take m xs)) 0) (x ∷ xs) ≡ take (suc m) (take (cond v (1 + prefix_len p xs) 0) (x ∷ xs))
    by true ih = rw (one-add (prefix_len p (take m xs)), one-add (prefix_len p xs)) (ap (λ ys. x ∷ ys) ih)
    by false ih = refl

pub more_is : (b : ℕ) (xs : List ℕ) → take (prefix_len is_high (take (min (continuation_len b) (length xs)) xs)) xs ≡ more_bytes b xs
more_is b xs = ap (λ ys. take (prefix_len is_high ys) xs) (take_min (continuation_len b) xs) ∙ front_by is_high (continuation_len b) xs

-- ---- characters that are not ASCII

all_append : (xs ys : List ℕ) → list_all is_high (xs ++ ys) ≡ true → (list_all is_high xs ≡ true) × (list_all is_high ys ≡ true)
all_append xs ys e = and_both (list_all is_high xs) (list_all is_high ys) (sym (list_all-append is_high xs ys) ∙ e)

high_char : (c : ℕ) → list_all is_high (encode_utf8 c) ≡ true → is_high c ≡ true
high_char c e = high_by (is_high c) refl
  where
    high_by : (v : Bool) → is_high c ≡ v → v ≡ true
    high_by true t = refl
    high_by false t =
        let lt : c < 128 = grind (arith, nat_tests) in
        let alone : (is_high c && true) ≡ true = ap (list_all is_high) (sym (encode_ascii c lt)) ∙ e in
        let wrong : (false && true) ≡ true = ap (λ v. v && true) (sym t) ∙ alone in
        absurd (cc)

high_chars : (cs : List ℕ) → list_all is_high (encode_utf8_all cs) ≡ true → list_all is_high cs ≡ true
high_chars [] e = refl
high_chars (c ∷ cs) e = let two = all_append (encode_utf8 c) (encode_utf8_all cs) e in rw (high_char c two.0) (high_chars cs two.1)

high_run : (m : ℕ) (xs : List ℕ) → list_all is_high (take m (take_while is_high xs)) ≡ true
high_run zero xs = refl
high_run (suc m) [] = refl
high_run (suc m) (x ∷ xs) = run_by (is_high x) refl (high_run m xs)
  where
    run_by : (v : Bool) → is_high x ≡ v → list_all is_high (take m (take_while is_high xs)) ≡ true → list_all is_high (take (suc m) (take (cond v (1 + prefix_len is_high xs) 0) (x ∷ xs))) ≡ true
    run_by true t ih = rw (one-add (prefix_len is_high xs), t) ih
    run_by false t ih = refl

-- the characters at the front, where the first byte is not ASCII
pub record Wide (front : List ℕ) : Type 0 where
  pub first : ℕ
  pub others : List ℕ
  pub are : chars front ≡ first ∷ others
  pub high : list_all is_high (first ∷ others) ≡ true
  pub scalar : all_scalars (first ∷ others) ≡ true

wide_by : (front cs : List ℕ) (b : ℕ) (more : List ℕ) → front ≡ b ∷ more → list_all is_high front ≡ true → all_scalars cs ≡ true → encode_utf8_all cs ≡ front → Wide front
wide_by front [] b more e h s f = absurd (let wrong : [] ≡ b ∷ more = f ∙ e in cc)
wide_by front (c ∷ cs) b more e h s f =
    record {
      first = c;
      others = cs;
      are = ap chars (sym f) ∙ chars-encodes (c ∷ cs) s;
      high = high_chars (c ∷ cs) (ap (list_all is_high) f ∙ h);
      scalar = s;
    }

pub wide : (b : ℕ) (bs : List ℕ) → is_high b ≡ true → is_utf8 (b ∷ more_bytes b bs) ≡ true → Wide (b ∷ more_bytes b bs)
wide b bs h t =
    let u = IsUtf8-from_is_utf8 (b ∷ more_bytes b bs) t in
    wide_by (b ∷ more_bytes b bs) u.0 b (more_bytes b bs) refl (rw h (high_run (continuation_len b) bs)) u.1.0 u.1.1

-- ---- the first character

-- a byte that is not ASCII begins a character that is not, or is not UTF-8
pub record High (cs : List ℕ) : Type 0 where
  pub first : ℕ
  pub others : List ℕ
  pub are : cs ≡ first ∷ others
  pub high : is_high first ≡ true

pub high_begins : (b : ℕ) (bs : List ℕ) → is_high b ≡ true → High (decoded_behind 0 (b ∷ bs))
high_begins b bs h = begins_by (is_utf8 (b ∷ more_bytes b bs)) refl
  where
    begins_by : (v : Bool) → is_utf8 (b ∷ more_bytes b bs) ≡ v → High (decoded_behind 0 (b ∷ bs))
    begins_by false t = record { first = not_utf8; others = decoded_behind 0 bs; are = decoded_bad b bs t; high = refl }
    begins_by true t =
        let w = wide b bs h t in
        let rest = decoded_behind 0 (drop (length (more_bytes b bs)) bs) in
        record { first = w.first; others = w.others ++ rest; are = decoded_wide b bs t ∙ ap (λ cs. cs ++ rest) w.are; high = (and_both (is_high w.first) (list_all is_high w.others) w.high).0 }

-- a class of ASCII characters begins the characters where it begins the bytes
pub decoded_begins : (p : ℕ → Bool) → ((c : ℕ) → is_high c ≡ true → p c ≡ false) → (bs : List ℕ) → begins p (decoded_behind 0 bs) ≡ begins p bs
decoded_begins p ascii [] = refl
decoded_begins p ascii (b ∷ bs) = by_byte (is_high b) refl
  where
    by_byte : (v : Bool) → is_high b ≡ v → begins p (decoded_behind 0 (b ∷ bs)) ≡ p b
    by_byte true h = let first = high_begins b bs h in ap (begins p) first.are ∙ (ascii first.first first.high ∙ sym (ascii b h))
    by_byte false h = ap (begins p) (decoded_ascii b bs (grind (arith, nat_tests)))
