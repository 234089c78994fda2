-- Strings: what they spell, where they end, and what they hold.
use Rattle.std.proofs.Common.{◌≡◌, ◌∙◌, sym, ap, refl, subst, ℕ, zero, suc, ◌+◌, ◌-◌, ◌*◌, ◌/◌, ◌%◌, ◌<◌, ◌≤◌, Bool, true, false, cond, ◌&&◌, ◌||◌, not, List, [], ◌∷◌, ◌++◌, length, take, drop, Option, Some, None, Ok, arith, append_assoc, append-nil, length-append, chars}
use Rattle.std.specs.Prelude.{◌==◌, nat_le, nat_lt, take_while}
use Rattle.std.specs.List.{list_all, prefix_len}
use Rattle.std.proofs.Math.Numerals.{one-add}
use Rattle.std.specs.Char.{digit_value}
use Rattle.std.specs.Str.{is_utf8, all_scalars, continuation_len}
use lib.Utf8.{scalar, scalars, encode, encodes}
use Rattle.std.proofs.lemmas.Str.{is_utf8-from_IsUtf8, IsUtf8-encode, chars-encodes, encodes-append}
use Rattle.std.proofs.lemmas.List.Folds.{list_all-append}
use Rattle.std.proofs.lemmas.Bool.Decides.{nat_tests}
use Rattle.std.proofs.Math.Seq.{take-append_seam, drop-append_seam}
use Rattle.py_language.specs.declared.token.Token.TheVariants as t
use Rattle.py_language.specs.TokensCharacters.{is_quote, begins, more_bytes, is_character, not_utf8, decoded_behind, decoded}
use Rattle.py_language.specs.TokensNumbers.{is_nil, is_digit_below}
use Rattle.py_language.specs.TokensStrings.{quotes, is_tripled, later, closing, quotes_len, plus, string_len, hex_value, hex_escape_by, hex_escape, escape_len, escaped, lines_on, content_behind, string_content}
use Rattle.py_language.specs.TokensPieces.{piece_len, or_one}
use Rattle.py_language.specs.TokensLines.{string_token}
use Rattle.py_language.specs.TokensFaults.{fault_by, string_fault}
use Rattle.py_spelling.specs.Spelling.{hex_digit, by_digits, sign, glyph, glyphs_by, glyphs, quoted, GlyphsAreCharacters}
use Rattle.py_spelling.proofs.Longest.{below_get}
use Rattle.py_spelling.proofs.WordSpelling.{and_both, or_both, not_true, is_inline, all_weaker, Follows, Spelt}

-- ---- UTF-8, one character at a time

abbrev is_high : ℕ → Bool
is_high c = nat_le 128 c

record Coded (c : ℕ) : Type 0 where
  b : ℕ
  m : List ℕ
  are : encode c ≡ b ∷ m
  more : continuation_len b ≡ length m
  high : list_all is_high m ≡ true
  first : (c < 128 → (b ≡ c) × (m ≡ []))
  wide : 128 ≤ c → is_high b ≡ true

next_high : (n : ℕ) → nat_le 128 (128 + n % 64) ≡ true
next_high n = grind (arith, nat_tests)

coded : (c : ℕ) → scalar c ≡ true → Coded c
unfolding encode
coded c s = coded_by (nat_lt c 128) (nat_lt c 2048) (nat_lt c 65536) refl refl refl
  where
    coded_by : (u v w : Bool) → nat_lt c 128 ≡ u → nat_lt c 2048 ≡ v → nat_lt c 65536 ≡ w → Coded c
    coded_by true v w eu ev ew = record { b = c; m = []; are = rw eu refl; more = rw eu refl; high = refl; first = λ lt. (refl, refl); wide = λ le. absurd (let lt : c < 128 = grind (arith, nat_tests) in omega arith) }
    coded_by false true w eu ev ew =
        let lt : c < 2048 = grind (arith, nat_tests) in
        let ge : 128 ≤ c = grind (arith, nat_tests) in
        let p : nat_lt (192 + c / 64) 128 ≡ false = grind (arith, nat_tests) in
        let small : 192 + c / 64 < 224 = omega arith in
        let q : nat_lt (192 + c / 64) 224 ≡ true = grind (arith, nat_tests) in
        record { b = 192 + c / 64; m = (128 + c % 64) ∷ []; are = rw (eu, ev) refl; more = rw (p, q) refl; high = rw (next_high c) refl; first = λ lo. absurd (omega arith); wide = λ le. grind (arith, nat_tests) }
    coded_by false false true eu ev ew =
        let lt : c < 65536 = grind (arith, nat_tests) in
        let ge : 2048 ≤ c = grind (arith, nat_tests) in
        let p : nat_lt (224 + c / 4096) 128 ≡ false = grind (arith, nat_tests) in
        let q : nat_lt (224 + c / 4096) 224 ≡ false = grind (arith, nat_tests) in
        let small : 224 + c / 4096 < 240 = omega arith in
        let r : nat_lt (224 + c / 4096) 240 ≡ true = grind (arith, nat_tests) in
        record { b = 224 + c / 4096; m = (128 + c / 64 % 64) ∷ (128 + c % 64) ∷ []; are = rw (eu, ev, ew) refl; more = rw (p, q, r) refl; high = rw (next_high (c / 64), next_high c) refl; first = λ lo. absurd (omega arith); wide = λ le. grind (arith, nat_tests) }
    coded_by false false false eu ev ew =
        let ge : 65536 ≤ c = grind (arith, nat_tests) in
        let p : nat_lt (240 + c / 262144) 128 ≡ false = grind (arith, nat_tests) in
        let q : nat_lt (240 + c / 262144) 224 ≡ false = grind (arith, nat_tests) in
        let r : nat_lt (240 + c / 262144) 240 ≡ false = grind (arith, nat_tests) in
        record { b = 240 + c / 262144; m = (128 + c / 4096 % 64) ∷ (128 + c / 64 % 64) ∷ (128 + c % 64) ∷ []; are = rw (eu, ev, ew) refl; more = rw (p, q, r) refl; high = rw (next_high (c / 4096), next_high (c / 64), next_high c) refl; first = λ lo. absurd (omega arith); wide = λ le. grind (arith, nat_tests) }

while_all : (p : ℕ → Bool) (xs ys : List ℕ) → list_all p xs ≡ true → take_while p (xs ++ ys) ≡ xs ++ take_while p ys
while_all p [] ys e = refl
while_all p (x ∷ xs) ys e = let two = and_both (p x) (list_all p xs) e in rw (two.0, one-add (prefix_len p (xs ++ ys))) (ap (λ zs. x ∷ zs) (while_all p xs ys two.1))

more_is : (b : ℕ) (m rest : List ℕ) → continuation_len b ≡ length m → list_all is_high m ≡ true → more_bytes b (m ++ rest) ≡ m
more_is b m rest e h = ap (λ n. take n (take_while is_high (m ++ rest))) e ∙ ap (take (length m)) (while_all is_high m rest h) ∙ take-append_seam m (take_while is_high rest)

decoded_drop : (n : ℕ) (bs : List ℕ) → decoded_behind n bs ≡ decoded_behind 0 (drop n bs)
decoded_drop zero bs = refl
decoded_drop (suc n) [] = refl
decoded_drop (suc n) (b ∷ bs) = decoded_drop n bs

decoded_by : (b : ℕ) (bs more : List ℕ) → more_bytes b bs ≡ more → is_utf8 (b ∷ more) ≡ true
    → decoded_behind 0 (b ∷ bs) ≡ chars (b ∷ more) ++ decoded_behind (length more) bs
decoded_by b bs more e t =
    let chosen : is_character b bs ≡ true = ap (λ xs. is_utf8 (b ∷ xs)) e ∙ t in
    ap (λ w. cond w (chars (b ∷ more_bytes b bs)) (not_utf8 ∷ []) ++ decoded_behind (cond w (length (more_bytes b bs)) 0) bs) chosen
    ∙ ap (λ xs. chars (b ∷ xs) ++ decoded_behind (length xs) bs) e

one_char : (c : ℕ) → scalar c ≡ true → chars (encode c) ≡ c ∷ []
one_char c s = ap chars (sym (append-nil (encode c))) ∙ chars-encodes (c ∷ []) (rw s refl)

pub decoded_one : (c : ℕ) (rest : List ℕ) → scalar c ≡ true → decoded_behind 0 (encode c ++ rest) ≡ c ∷ decoded_behind 0 rest
decoded_one c rest s =
    let w = coded c s in
    let good : is_utf8 (w.b ∷ w.m) ≡ true = ap is_utf8 (sym w.are) ∙ is_utf8-from_IsUtf8 (encode c) (IsUtf8-encode c s) in
    ap (λ xs. decoded_behind 0 (xs ++ rest)) w.are
    ∙ decoded_by w.b (w.m ++ rest) w.m (more_is w.b w.m rest w.more w.high) good
    ∙ ap (λ cs. cs ++ decoded_behind (length w.m) (w.m ++ rest)) (ap chars (sym w.are) ∙ one_char c s)
    ∙ ap (λ cs. c ∷ cs) (decoded_drop (length w.m) (w.m ++ rest) ∙ ap (decoded_behind 0) (drop-append_seam w.m rest))

decoded_all : (cs : List ℕ) → all_scalars cs ≡ true → decoded_behind 0 (encodes cs) ≡ cs
decoded_all [] e = refl
decoded_all (c ∷ cs) e = let two = and_both (scalar c) (all_scalars cs) e in decoded_one c (encodes cs) two.0 ∙ ap (λ xs. c ∷ xs) (decoded_all cs two.1)

-- ---- what a glyph is

record Plain (c : ℕ) : Type 0 where
  slash : (c == 92) ≡ false
  quote : (34 == c) ≡ false
  feed : (c == 10) ≡ false
  return : (c == 13) ≡ false
  form : (c == 12) ≡ false

-- what holds of each glyph holds of these seven kinds
glyph_cases : (nested : Bool) (P : ℕ → List ℕ → Type 0) → P 92 (92 ∷ 92 ∷ []) → P 34 (92 ∷ 34 ∷ []) → P 10 (92 ∷ 110 ∷ []) → P 9 (92 ∷ 116 ∷ []) → P 13 (92 ∷ 114 ∷ [])
    → ((c : ℕ) → c < 128 → P c (by_digits c)) → ((c : ℕ) → Plain c → P c (c ∷ [])) → (c : ℕ) → P c (glyph nested c)
glyph_cases nested P slash quote feed tab return control other c = by (c == 92) (c == 34) (c == 10) (c == 9) (c == 13) (nat_lt c 32) (c == 127) refl refl refl refl refl refl refl
  where
    signed : (n : Bool) (x : ℕ) → P x (92 ∷ x ∷ []) → P x (by_digits x) → P x (sign n x)
    signed true x plain digits = digits
    signed false x plain digits = plain

    by : (a b d e f g h : Bool) → (c == 92) ≡ a → (c == 34) ≡ b → (c == 10) ≡ d → (c == 9) ≡ e → (c == 13) ≡ f → nat_lt c 32 ≡ g → (c == 127) ≡ h
        → P c (cond (a || b) (sign nested c) (cond d (92 ∷ 110 ∷ []) (cond e (92 ∷ 116 ∷ []) (cond f (92 ∷ 114 ∷ []) (cond (g || h) (by_digits c) (c ∷ []))))))
    by true b d e f g h ea eb ed ee ef eg eh = let is : 92 ≡ c = grind (arith, nat_tests) in subst (λ x. P x (sign nested x)) is (signed nested 92 slash (control 92 (omega arith)))
    by false true d e f g h ea eb ed ee ef eg eh = let is : 34 ≡ c = grind (arith, nat_tests) in subst (λ x. P x (sign nested x)) is (signed nested 34 quote (control 34 (omega arith)))
    by false false true e f g h ea eb ed ee ef eg eh = let is : 10 ≡ c = grind (arith, nat_tests) in subst (λ x. P x (92 ∷ 110 ∷ [])) is feed
    by false false false true f g h ea eb ed ee ef eg eh = let is : 9 ≡ c = grind (arith, nat_tests) in subst (λ x. P x (92 ∷ 116 ∷ [])) is tab
    by false false false false true g h ea eb ed ee ef eg eh = let is : 13 ≡ c = grind (arith, nat_tests) in subst (λ x. P x (92 ∷ 114 ∷ [])) is return
    by false false false false false true h ea eb ed ee ef eg eh = let low : c < 32 = grind (arith, nat_tests) in control c (omega arith)
    by false false false false false false true ea eb ed ee ef eg eh = let low : c ≡ 127 = grind (arith, nat_tests) in control c (omega arith)
    by false false false false false false false ea eb ed ee ef eg eh =
        let high : 32 ≤ c = grind (arith, nat_tests) in
        let q : (34 == c) ≡ false = grind (arith, nat_tests) in
        let form : (c == 12) ≡ false = grind (arith, nat_tests) in
        other c (record { slash = ea; quote = q; feed = ed; return = ef; form = form })

-- a byte that neither ends nor escapes
abbrev is_plain : ℕ → Bool
is_plain b = not ((34 == b) || ((b == 92) || ((b == 10) || (b == 13))))

high_plain : (b : ℕ) → is_high b ≡ true → is_plain b ≡ true
high_plain b e =
    let h : 128 ≤ b = grind (arith, nat_tests) in
    let p : (34 == b) ≡ false = grind (arith, nat_tests) in
    let q : (b == 92) ≡ false = grind (arith, nat_tests) in
    let r : (b == 10) ≡ false = grind (arith, nat_tests) in
    let s : (b == 13) ≡ false = grind (arith, nat_tests) in
    rw (p, q, r, s) refl

plain_bytes : (c : ℕ) → scalar c ≡ true → Plain c → list_all is_plain (encode c) ≡ true
plain_bytes c s p = let w = coded c s in ap (list_all is_plain) w.are ∙ bytes_by (nat_lt c 128) refl w
  where
    bytes_by : (v : Bool) → nat_lt c 128 ≡ v → (w : Coded c) → list_all is_plain (w.b ∷ w.m) ≡ true
    bytes_by true e w =
        let lt : c < 128 = grind (arith, nat_tests) in
        let two = w.first lt in
        ap (λ x. list_all is_plain (x ∷ w.m)) two.0 ∙ ap (λ m. list_all is_plain (c ∷ m)) two.1 ∙ rw (p.quote, p.slash, p.feed, p.return) refl
    bytes_by false e w =
        let ge : 128 ≤ c = grind (arith, nat_tests) in
        rw (high_plain w.b (w.wide ge), all_weaker is_high is_plain w.m high_plain w.high) refl

-- ---- a hexadecimal digit

abbrev is_hex : ℕ → Bool
is_hex n = is_plain (hex_digit n) && (nat_lt (hex_digit n) 128 && (scalar (hex_digit n) && (is_digit_below 16 (hex_digit n) && (digit_value (hex_digit n) == n))))

record Hex (n : ℕ) : Type 0 where
  plain : is_plain (hex_digit n) ≡ true
  low : nat_lt (hex_digit n) 128 ≡ true
  sound : scalar (hex_digit n) ≡ true
  digit : is_digit_below 16 (hex_digit n) ≡ true
  value : digit_value (hex_digit n) ≡ n

hex : (n : ℕ) → n < 16 → Hex n
hex n lt =
    let a = and_both _ _ (below_get 16 is_hex refl n lt) in
    let b = and_both _ _ a.1 in
    let d = and_both _ _ b.1 in
    let f = and_both _ _ d.1 in
    let same = f.1 in
    record { plain = a.0; low = b.0; sound = d.0; digit = f.0; value = grind (arith, nat_tests) }

high_digit : (c : ℕ) → c < 128 → Hex (c / 16)
high_digit c lt = hex (c / 16) (omega arith)

low_digit : (c : ℕ) → Hex (c % 16)
low_digit c = hex (c % 16) (omega arith)

hex_bytes : (c : ℕ) → c < 128 → encodes (by_digits c) ≡ by_digits c
unfolding encode
hex_bytes c lt = rw ((high_digit c lt).low, (low_digit c).low) refl

-- ---- where the string ends

plus_later : (n : ℕ) (o : Option ℕ) → later (plus n o) ≡ plus (suc n) o
plus_later n None = refl
plus_later n (Some k) = let e : suc (n + k) ≡ suc n + k = omega arith in ap (λ x. Some x) e

plus_none : (o : Option ℕ) → plus 0 o ≡ o
plus_none None = refl
plus_none (Some k) = let e : 0 + k ≡ k = omega arith in ap (λ x. Some x) e

plus_plus : (m n : ℕ) (o : Option ℕ) → plus m (plus n o) ≡ plus (m + n) o
plus_plus m n None = refl
plus_plus m n (Some k) = let e : m + (n + k) ≡ m + n + k = omega arith in ap (λ x. Some x) e

abbrev ends : List ℕ → Option ℕ
ends text = closing 34 false false text

plain_parts : (b : ℕ) → is_plain b ≡ true → ((34 == b) ≡ false) × (((b == 92) ≡ false) × ((b == 10) ≡ false))
plain_parts b e =
    let one = or_both (34 == b) ((b == 92) || ((b == 10) || (b == 13))) (not_true _ e) in
    let two = or_both (b == 92) ((b == 10) || (b == 13)) one.1 in
    let three = or_both (b == 10) (b == 13) two.1 in
    (one.0, (two.0, three.0))

ends_plain : (bs rest : List ℕ) → list_all is_plain bs ≡ true → ends (bs ++ rest) ≡ plus (length bs) (ends rest)
ends_plain [] rest e = sym (plus_none (ends rest))
ends_plain (b ∷ bs) rest e =
    let two = and_both (is_plain b) (list_all is_plain bs) e in
    let p = plain_parts b two.0 in
    rw (p.0, p.1.0, p.1.1) (ap later (ends_plain bs rest two.1) ∙ plus_later (length bs) (ends rest))

-- the first byte is no quote, the bytes end no string, and no line ends among them
record Body (bs : List ℕ) : Type 0 where
  ends_is : (rest : List ℕ) → ends (bs ++ rest) ≡ plus (length bs) (ends rest)
  inline : list_all is_inline bs ≡ true

two_later : (o : Option ℕ) → later (later o) ≡ plus 2 o
two_later None = refl
two_later (Some k) = let e : suc (suc k) ≡ 2 + k = omega arith in ap (λ x. Some x) e

plain_inline : (b : ℕ) → is_plain b ≡ true → is_inline b ≡ true
plain_inline b e =
    let one = or_both (34 == b) ((b == 92) || ((b == 10) || (b == 13))) (not_true _ e) in
    let two = or_both (b == 92) ((b == 10) || (b == 13)) one.1 in
    let three = or_both (b == 10) (b == 13) two.1 in
    rw (three.0, three.1) refl

plain_body : (bs : List ℕ) → list_all is_plain bs ≡ true → Body bs
plain_body bs e = record { ends_is = λ rest. ends_plain bs rest e; inline = all_weaker is_plain is_inline bs plain_inline e }

hex_body : (c : ℕ) → c < 128 → Body (by_digits c)
hex_body c lt =
    let digits = hex_digit (c / 16) ∷ hex_digit (c % 16) ∷ [] in
    let plain : list_all is_plain digits ≡ true = rw ((high_digit c lt).plain, (low_digit c).plain) refl in
    let inline : list_all is_inline digits ≡ true = all_weaker is_plain is_inline digits plain_inline plain in
    record {
      ends_is = λ rest. ap (λ o. later (later o)) (ends_plain digits rest plain) ∙ two_later (plus 2 (ends rest)) ∙ plus_plus 2 2 (ends rest);
      inline = inline;
    }

glyph_body : (nested : Bool) (c : ℕ) → scalar c ≡ true → Body (encodes (glyph nested c))
unfolding encode
glyph_body nested c s = glyph_cases nested (λ (c : ℕ) (g : List ℕ). scalar c ≡ true → Body (encodes g))
    (λ s. record { ends_is = λ rest. two_later (ends rest); inline = refl })
    (λ s. record { ends_is = λ rest. two_later (ends rest); inline = refl })
    (λ s. record { ends_is = λ rest. two_later (ends rest); inline = refl })
    (λ s. record { ends_is = λ rest. two_later (ends rest); inline = refl })
    (λ s. record { ends_is = λ rest. two_later (ends rest); inline = refl })
    (λ c lt s. subst Body (sym (hex_bytes c lt)) (hex_body c lt))
    (λ c p s. subst Body (sym (append-nil (encode c))) (plain_body (encode c) (plain_bytes c s p)))
    c s

body : (nested : Bool) (s : List ℕ) → all_scalars s ≡ true → Body (encodes (glyphs_by nested s))
body nested [] e = record { ends_is = λ rest. sym (plus_none (ends rest)); inline = refl }
body nested (c ∷ s) e =
    let two = and_both (scalar c) (all_scalars s) e in
    let first = glyph_body nested c two.0 in
    let rest = body nested s two.1 in
    let x = encodes (glyph nested c) in
    let y = encodes (glyphs_by nested s) in
    let joined : Body (x ++ y) = record {
      ends_is = λ more. ap ends (append_assoc x y more) ∙ first.ends_is (y ++ more) ∙ ap (plus (length x)) (rest.ends_is more) ∙ plus_plus (length x) (length y) (ends more) ∙ ap (λ n. plus n (ends more)) (sym (length-append x y));
      inline = list_all-append is_inline x y ∙ rw (first.inline, rest.inline) refl;
    } in
    subst Body (sym (encodes-append (glyph nested c) (glyphs_by nested s))) joined

-- ---- the string is not tripled

plain_first : (bs rest : List ℕ) (b : ℕ) (m : List ℕ) → bs ≡ b ∷ m → list_all is_plain bs ≡ true → is_tripled 34 (bs ++ rest) ≡ false
plain_first bs rest b m is e =
    let all : list_all is_plain (b ∷ m) ≡ true = ap (list_all is_plain) (sym is) ∙ e in
    let two = and_both (is_plain b) (list_all is_plain m) all in
    ap (λ xs. is_tripled 34 (xs ++ rest)) is ∙ rw ((plain_parts b two.0).0) refl

glyph_first : (nested : Bool) (c : ℕ) → scalar c ≡ true → (rest : List ℕ) → is_tripled 34 (encodes (glyph nested c) ++ rest) ≡ false
unfolding encode
glyph_first nested c s rest = glyph_cases nested (λ (c : ℕ) (g : List ℕ). scalar c ≡ true → is_tripled 34 (encodes g ++ rest) ≡ false)
    (λ s. refl) (λ s. refl) (λ s. refl) (λ s. refl) (λ s. refl)
    (λ c lt s. refl)
    (λ c p s. ap (λ xs. is_tripled 34 (xs ++ rest)) (append-nil (encode c)) ∙ (let w = coded c s in plain_first (encode c) rest w.b w.m w.are (plain_bytes c s p)))
    c s

not_tripled : (nested : Bool) (s after : List ℕ) → all_scalars s ≡ true → begins is_quote after ≡ false → is_tripled 34 (encodes (glyphs_by nested s) ++ 34 ∷ after) ≡ false
not_tripled nested [] [] e q = refl
not_tripled nested [] (d ∷ after) e q = let two = or_both (d == 34) (d == 39) q in let n : (34 == d) ≡ false = (let m = two.0 in grind (arith, nat_tests)) in rw n refl
not_tripled nested (c ∷ s) after e q =
    let two = and_both (scalar c) (all_scalars s) e in
    ap (is_tripled 34) (ap (λ xs. xs ++ 34 ∷ after) (encodes-append (glyph nested c) (glyphs_by nested s)) ∙ append_assoc (encodes (glyph nested c)) (encodes (glyphs_by nested s)) (34 ∷ after)) ∙ glyph_first nested c two.0 (encodes (glyphs_by nested s) ++ 34 ∷ after)

-- ---- what the string holds

glyph_scalars : (nested : Bool) (c : ℕ) → scalar c ≡ true → all_scalars (glyph nested c) ≡ true
glyph_scalars nested c s = glyph_cases nested (λ (c : ℕ) (g : List ℕ). scalar c ≡ true → all_scalars g ≡ true) (λ s. refl) (λ s. refl) (λ s. refl) (λ s. refl) (λ s. refl) (λ c lt s. rw ((high_digit c lt).sound, (low_digit c).sound) refl) (λ c p s. rw s refl) c s

scalars_append : (xs ys : List ℕ) → all_scalars xs ≡ true → all_scalars ys ≡ true → all_scalars (xs ++ ys) ≡ true
scalars_append [] ys e f = f
scalars_append (x ∷ xs) ys e f = let two = and_both (scalar x) (all_scalars xs) e in rw two.0 (scalars_append xs ys two.1 f)

glyphs_scalars : (nested : Bool) (s : List ℕ) → all_scalars s ≡ true → all_scalars (glyphs_by nested s) ≡ true
glyphs_scalars nested [] e = refl
glyphs_scalars nested (c ∷ s) e = let two = and_both (scalar c) (all_scalars s) e in scalars_append (glyph nested c) (glyphs_by nested s) (glyph_scalars nested c two.0) (glyphs_scalars nested s two.1)

pub glyphs_are_characters : GlyphsAreCharacters
glyphs_are_characters s e = glyphs_scalars false s e

sound_char : (c : ℕ) → scalar c ≡ true → (c == not_utf8) ≡ false
sound_char c s = same_by (c == not_utf8) refl
  where
    same_by : (v : Bool) → (c == not_utf8) ≡ v → v ≡ false
    same_by true e = let is : c ≡ not_utf8 = grind (arith, nat_tests) in let wrong : true ≡ false = sym s ∙ ap scalar is in absurd (cc)
    same_by false e = refl

content_plain : (c : ℕ) (rest r : List ℕ) → Plain c → scalar c ≡ true → content_behind 0 rest ≡ Ok r → content_behind 0 (c ∷ rest) ≡ Ok (c ∷ r)
content_plain c rest r p s e = rw (p.slash, p.feed, sound_char c s, p.return, p.form, e) refl

-- a glyph stands for its character
abbrev Stands : ℕ → List ℕ → Type 0
Stands c g = scalar c ≡ true → (rest r : List ℕ) → content_behind 0 rest ≡ Ok r → content_behind 0 (g ++ rest) ≡ Ok (c ∷ r)

hex_escape_is : (c : ℕ) → c < 128 → scalar c ≡ true → (rest : List ℕ) → hex_escape 2 (hex_digit (c / 16) ∷ hex_digit (c % 16) ∷ rest) ≡ Some (c ∷ [], 3)
hex_escape_is c lt s rest =
    let h = high_digit c lt in
    let l = low_digit c in
    let value : (0 * 16 + c / 16) * 16 + c % 16 ≡ c = omega arith in
    let valued : hex_value 2 0 (hex_digit (c / 16) ∷ hex_digit (c % 16) ∷ rest) ≡ Some c = rw (h.digit, l.digit, h.value, l.value) (ap (λ x. Some x) value) in
    ap (hex_escape_by 2) valued ∙ rw s refl

hex_stands : (c : ℕ) → c < 128 → Stands c (by_digits c)
hex_stands c lt = λ s rest r e.
    let text = 120 ∷ hex_digit (c / 16) ∷ hex_digit (c % 16) ∷ rest in
    ap (λ o. escaped o (lines_on 0 (content_behind (escape_len o) text))) (hex_escape_is c lt s rest) ∙ rw e refl

glyph_stands : (nested : Bool) (c : ℕ) → Stands c (glyph nested c)
glyph_stands nested c = glyph_cases nested Stands
    (λ s rest r e. rw e refl)
    (λ s rest r e. rw e refl)
    (λ s rest r e. rw e refl)
    (λ s rest r e. rw e refl)
    (λ s rest r e. rw e refl)
    hex_stands
    (λ c p s rest r e. content_plain c rest r p s e)
    c

content_is : (nested : Bool) (s : List ℕ) → all_scalars s ≡ true → content_behind 0 (glyphs_by nested s) ≡ Ok s
content_is nested [] e = refl
content_is nested (c ∷ s) e = let two = and_both (scalar c) (all_scalars s) e in glyph_stands nested c two.0 (glyphs_by nested s) s (content_is nested s two.1)

-- ---- the token

module _ (s : List ℕ) (good : all_scalars s ≡ true) where
  abbrev nested : Bool
  nested = false

  abbrev inner : List ℕ
  inner = encodes (glyphs s)

  no_quote : (after : List ℕ) → Follows (t.Str s) after → begins is_quote after ≡ false
  no_quote [] f = refl
  no_quote (d ∷ more) f = not_true _ f

  closes : (after : List ℕ) → ends (inner ++ 34 ∷ after) ≡ Some (length inner + 1)
  closes after = (body nested s good).ends_is (34 ∷ after)

  string_is : (after : List ℕ) → Follows (t.Str s) after → string_len 34 ((inner ++ 34 ∷ []) ++ after) ≡ Some (suc (length (inner ++ 34 ∷ [])))
  unfolding string_len
  string_is after f =
      let n : 1 + (length inner + 1) ≡ suc (length (inner ++ 34 ∷ [])) = omega (arith, length-append inner (34 ∷ [])) in
      ap (λ xs. plus (quotes_len 34 xs) (closing 34 (is_tripled 34 xs) false (drop (quotes_len 34 xs - 1) xs))) (append_assoc inner (34 ∷ []) after)
      ∙ ap (λ v. plus (length (quotes 34 v)) (closing 34 v false (drop (length (quotes 34 v) - 1) (inner ++ 34 ∷ after)))) (not_tripled nested s after good (no_quote after f))
      ∙ ap (plus 1) (closes after)
      ∙ ap (λ k. Some k) n

  string_cut : (after : List ℕ) → Follows (t.Str s) after → piece_len 34 ((inner ++ 34 ∷ []) ++ after) ≡ suc (length (inner ++ 34 ∷ []))
  unfolding piece_len
  string_cut after f = ap or_one (string_is after f)

  holds : string_content 34 (inner ++ 34 ∷ []) ≡ Ok s
  unfolding string_content decoded
  holds =
      let n : length (inner ++ 34 ∷ []) + 1 - (1 + 1) ≡ length inner = omega (arith, length-append inner (34 ∷ [])) in
      ap (λ v. content_behind 0 (decoded_behind 0 (take (length (inner ++ 34 ∷ []) + 1 - (length (quotes 34 v) + length (quotes 34 v))) (drop (length (quotes 34 v) - 1) (inner ++ 34 ∷ []))))) (not_tripled nested s [] good refl)
      ∙ ap (λ k. content_behind 0 (decoded_behind 0 (take k (inner ++ 34 ∷ [])))) n
      ∙ ap (λ xs. content_behind 0 (decoded_behind 0 xs)) (take-append_seam inner (34 ∷ []))
      ∙ ap (content_behind 0) (decoded_all (glyphs s) (glyphs_scalars nested s good))
      ∙ content_is nested s good

  not_nil : (xs : List ℕ) → is_nil (xs ++ 34 ∷ []) ≡ false
  not_nil [] = refl
  not_nil (x ∷ xs) = refl

  string_fine : (h : Bool) (before : List (List ℕ)) (after : List ℕ) → fault_by h before 34 (inner ++ 34 ∷ []) after ≡ None
  unfolding fault_by string_fault
  string_fine h before after = rw (not_nil inner, holds) refl

  pub string_spelt : Spelt (t.Str s)
  unfolding quoted
  string_spelt = record {
    c = 34;
    cs = inner ++ 34 ∷ [];
    text = refl;
    cut = string_cut;
    token = ap string_token holds;
    inline = list_all-append is_inline inner (34 ∷ []) ∙ rw ((body nested s good).inline) refl;
    solid = refl;
    first = refl;
    fault = λ h before after f b. string_fine h before after;
  }
