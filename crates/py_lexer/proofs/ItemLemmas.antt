-- Each item inside a string, as the code finds it.
use Rattle.std.proofs.Common.{◌≡◌, ◌∙◌, sym, ap, refl, subst, ℕ, suc, ◌+◌, ◌<◌, ◌≤◌, Bool, true, false, cond, ◌||◌, List, [], ◌∷◌, ◌++◌, length, drop, chars, Option, Some, None, Err, add-one, arith}
use Rattle.std.specs.Prelude.{◌==◌, option_to_list}
use Rattle.std.specs.Str.{is_utf8, all_scalars}
use Rattle.std.proofs.lemmas.Bool.Decides.{nat_tests}
use Rattle.pyn_base.specs.declared.construct.Construct.TheVariants as fault
use Rattle.py_language.specs.TokensCharacters.{begins, more_bytes, decoded_behind}
use Rattle.py_language.specs.TokensStrings.{refused, hex_value, hex_escape, hex_escape_by, escape_by, escape_of, escape_len, behind, lines_on, escaped, content_behind}
use Rattle.py_lexer.specs.declared.content.Item.TheVariants as i
use Rattle.py_lexer.specs.Scan.{content_of, front_of, ItemAt}
use Rattle.py_lexer.proofs.DecodeLemmas.{is_high, decoded_ascii, decoded_wide, decoded_bad, wide, high_begins, decoded_begins}
use Rattle.py_lexer.proofs.ContentLemmas.{lines_on-zero, content_drop, content_plain, content_high, hex_same, hex_drop}

-- ---- escapes

high_escape : (c : ℕ) (cs : List ℕ) → is_high c ≡ true → escape_by c cs ≡ None
high_escape c cs h =
    let a : (c == 92) ≡ false = grind (arith, nat_tests) in
    let b : (c == 39) ≡ false = grind (arith, nat_tests) in
    let d : (c == 34) ≡ false = grind (arith, nat_tests) in
    let e : (c == 110) ≡ false = grind (arith, nat_tests) in
    let f : (c == 116) ≡ false = grind (arith, nat_tests) in
    let g : (c == 114) ≡ false = grind (arith, nat_tests) in
    let k : (c == 10) ≡ false = grind (arith, nat_tests) in
    let l : (c == 120) ≡ false = grind (arith, nat_tests) in
    let m : (c == 117) ≡ false = grind (arith, nat_tests) in
    rw (a, b, d, e, f, g, k, l, m) refl

-- the escape of the characters is that of the bytes
escape_same : (y : List ℕ) → escape_of (decoded_behind 0 y) ≡ escape_of y
escape_same [] = refl
escape_same (e ∷ es) = same_by (is_high e) refl
  where
    same_by : (h : Bool) → is_high e ≡ h → escape_of (decoded_behind 0 (e ∷ es)) ≡ escape_by e es
    same_by true h = let first = high_begins e es h in ap escape_of first.are ∙ (high_escape first.first first.others first.high ∙ sym (high_escape e es h))
    same_by false h = ap escape_of (decoded_ascii e es (grind (arith, nat_tests))) ∙ rw (hex_same 2 0 es, hex_same 4 0 es) refl

feed_same : (y : List ℕ) → begins (λ d. d == 10) (decoded_behind 0 y) ≡ begins (λ d. d == 10) y
feed_same y = decoded_begins (λ d. d == 10) (λ c h. grind (arith, nat_tests)) y

-- ---- how many bytes an escape takes

abbrev Takes : List ℕ → Option (List ℕ × ℕ) → Type 0
Takes y None = Unit {0}
Takes y (Some e) = (drop e.1 (decoded_behind 0 y) ≡ decoded_behind 0 (drop e.1 y)) × (e.1 ≤ length y) × (0 < e.1)

takes_hex : (n e : ℕ) (es : List ℕ) (o : Option ℕ) → decoded_behind 0 (e ∷ es) ≡ e ∷ decoded_behind 0 es → hex_value n 0 es ≡ o → Takes (e ∷ es) (hex_escape_by n o)
takes_hex n e es None plain f = tt
takes_hex n e es (Some w) plain f = hex_by (all_scalars (w ∷ []))
  where
    hex_by : (t : Bool) → Takes (e ∷ es) (cond t (Some (w ∷ [], suc n)) None)
    hex_by false = tt
    hex_by true = let two = hex_drop n 0 w es f in (ap (drop (suc n)) plain ∙ two.0, omega (arith, two.1), omega arith)

takes_one : (cs : List ℕ) (e : ℕ) (es : List ℕ) → decoded_behind 0 (e ∷ es) ≡ e ∷ decoded_behind 0 es → Takes (e ∷ es) (Some (cs, 1))
takes_one cs e es plain = (ap (drop 1) plain, omega arith, omega arith)

takes_by : (a b d f g k l : Bool) (e : ℕ) (es : List ℕ) → decoded_behind 0 (e ∷ es) ≡ e ∷ decoded_behind 0 es
    → Takes (e ∷ es) (cond a (Some (e ∷ [], 1)) (cond b (Some (10 ∷ [], 1)) (cond d (Some (9 ∷ [], 1)) (cond f (Some (13 ∷ [], 1)) (cond g (Some ([], 1)) (cond k (hex_escape 2 es) (cond l (hex_escape 4 es) None)))))))
takes_by true b d f g k l e es plain = takes_one (e ∷ []) e es plain
takes_by false true d f g k l e es plain = takes_one (10 ∷ []) e es plain
takes_by false false true f g k l e es plain = takes_one (9 ∷ []) e es plain
takes_by false false false true g k l e es plain = takes_one (13 ∷ []) e es plain
takes_by false false false false true k l e es plain = takes_one [] e es plain
takes_by false false false false false true l e es plain = takes_hex 2 e es (hex_value 2 0 es) plain refl
takes_by false false false false false false true e es plain = takes_hex 4 e es (hex_value 4 0 es) plain refl
takes_by false false false false false false false e es plain = tt

takes : (y : List ℕ) → Takes y (escape_of y)
takes [] = tt
takes (e ∷ es) = low_by (is_high e) refl
  where
    low_by : (h : Bool) → is_high e ≡ h → Takes (e ∷ es) (escape_by e es)
    low_by true h = subst (Takes (e ∷ es)) (sym (high_escape e es h)) tt
    low_by false h = takes_by (e == 92 || (e == 39 || e == 34)) (e == 110) (e == 116) (e == 114) (e == 10) (e == 120) (e == 117) e es (decoded_ascii e es (grind (arith, nat_tests)))

pub escape_takes : (more : List ℕ) (c : Option ℕ) (len : ℕ) → Some (option_to_list c, len) ≡ escape_of more → Takes more (Some (option_to_list c, len))
escape_takes more c len shown = subst (Takes more) (sym shown) (takes more)

-- ---- items

small : (t : Bool) → cond t 1 0 ≤ 1
small true = omega arith
small false = omega arith

plain_by : (b : ℕ) (more : List ℕ) (v : Bool) → (b == 10) ≡ v → b < 128 → (b == 92) ≡ false → refused b ≡ None → content_of (b ∷ more) ≡ behind (b ∷ []) (lines_on (cond v 1 0) (content_of more))
plain_by b more true t lt s r =
    let is : b ≡ 10 = grind (arith, nat_tests) in
    ap (content_behind 0) (decoded_ascii b more lt) ∙ (ap (λ c. content_behind 0 (c ∷ decoded_behind 0 more)) is ∙ ap (λ c. behind (c ∷ []) (lines_on 1 (content_of more))) (sym is))
plain_by b more false t lt s r =
    ap (content_behind 0) (decoded_ascii b more lt) ∙ (content_plain b (decoded_behind 0 more) s t r ∙ ap (behind (b ∷ [])) (sym (lines_on-zero (content_of more))))

pub item_plain : (text more : List ℕ) (b n : ℕ) → text ≡ b ∷ more → b < 128 → (b ≡ 92 → ⊥) → (b ≡ 13 → ⊥) → (b ≡ 12 → ⊥) → n ≡ cond (begins (λ d. d == 10) text) 1 0 → ItemAt text (i.Char (Some b) 1 n)
item_plain text more b n e lt s r f feeds =
    let is : n ≡ cond (b == 10) 1 0 = feeds ∙ ap (λ xs. cond (begins (λ d. d == 10) xs) 1 0) e in
    let not_slash : (b == 92) ≡ false = grind (arith, nat_tests) in
    let not_return : (b == 13) ≡ false = grind (arith, nat_tests) in
    let not_form : (b == 12) ≡ false = grind (arith, nat_tests) in
    let not_bad : (b == 0x110000) ≡ false = grind (arith, nat_tests) in
    let fine : refused b ≡ None = rw (not_bad, not_return, not_form) refl in (
      ap content_of e ∙ (plain_by b more (b == 10) refl lt not_slash fine ∙ (ap (λ k. behind (b ∷ []) (lines_on k (content_of more))) (sym is) ∙ ap (λ xs. behind (b ∷ []) (lines_on n (content_of (drop 1 xs)))) (sym e))),
      omega arith,
      omega (arith, ap length e),
      omega (arith, is, small (b == 10)),
    )

pub item_refused : (text more : List ℕ) (b c : ℕ) → text ≡ b ∷ more → b ≡ c → c < 128 → content_behind 0 (c ∷ decoded_behind 0 more) ≡ Err (0, fault.Character) → ItemAt text (i.Fault fault.Character)
item_refused text more b c e is lt f = ap content_of (e ∙ ap (λ d. d ∷ more) is) ∙ (ap (content_behind 0) (decoded_ascii c more lt) ∙ f)

slash : (more : List ℕ) (o : Option (List ℕ × ℕ)) → escape_of more ≡ o → content_of (92 ∷ more) ≡ escaped o (lines_on (cond (begins (λ d. d == 10) more) 1 0) (content_behind (escape_len o) (decoded_behind 0 more)))
slash more o e =
    ap (content_behind 0) (decoded_ascii 92 more (omega arith))
    ∙ (ap (λ p. escaped p (lines_on (cond (begins (λ d. d == 10) (decoded_behind 0 more)) 1 0) (content_behind (escape_len p) (decoded_behind 0 more)))) (escape_same more ∙ e)
    ∙ ap (λ t. escaped o (lines_on (cond t 1 0) (content_behind (escape_len o) (decoded_behind 0 more)))) (feed_same more))

pub item_escape : (more : List ℕ) (c : Option ℕ) (len lines : ℕ) → Some (option_to_list c, len) ≡ escape_of more → lines ≡ cond (begins (λ d. d == 10) more) 1 0 → ItemAt (92 ∷ more) (i.Char c (len + 1) lines)
item_escape more c len lines shown feeds =
    let two = escape_takes more c len shown in
    let rest : content_behind len (decoded_behind 0 more) ≡ content_of (drop (len + 1) (92 ∷ more)) = content_drop len (decoded_behind 0 more) ∙ (ap (content_behind 0) two.0 ∙ ap (λ k. content_of (drop k (92 ∷ more))) (sym (add-one len))) in (
      slash more (Some (option_to_list c, len)) (sym shown) ∙ (ap (λ k. behind (option_to_list c) (lines_on k (content_behind len (decoded_behind 0 more)))) (sym feeds) ∙ ap (λ r. behind (option_to_list c) (lines_on lines r)) rest),
      omega arith,
      omega (arith, two.1),
      omega (arith, feeds, small (begins (λ d. d == 10) more)),
    )

pub item_no_escape : (more : List ℕ) → None ≡ escape_of more → ItemAt (92 ∷ more) (i.Fault fault.Escape)
item_no_escape more shown = slash more None (sym shown)

-- ---- a character that is not ASCII

pub wide_bad : (text more : List ℕ) (b : ℕ) → text ≡ b ∷ more → 128 ≤ b → is_utf8 (front_of text) ≡ false → ItemAt text (i.Fault fault.Encoding)
wide_bad text more b e h t = ap content_of e ∙ ap (content_behind 0) (decoded_bad b more (ap (λ xs. is_utf8 (front_of xs)) (sym e) ∙ t))

pub wide_good : (text more s : List ℕ) (b : ℕ) → text ≡ b ∷ more → 128 ≤ b → s ≡ front_of text → is_utf8 (front_of text) ≡ true → length s ≤ length text
    → (content_of text ≡ behind (chars s) (content_of (drop (length s) text))) × (0 < length s) × (length s ≤ length text)
wide_good text more s b e h f t le =
    let high : is_high b ≡ true = grind (arith, nat_tests) in
    let good : is_utf8 (b ∷ more_bytes b more) ≡ true = ap (λ xs. is_utf8 (front_of xs)) (sym e) ∙ t in
    let w = wide b more high good in
    let is : s ≡ b ∷ more_bytes b more = f ∙ ap front_of e in
    let n = length (more_bytes b more) in
    let step : content_of (b ∷ more) ≡ behind (chars (b ∷ more_bytes b more)) (content_of (drop n more)) =
    ap (content_behind 0) (decoded_wide b more good ∙ ap (λ cs. cs ++ decoded_behind 0 (drop n more)) w.are)
    ∙ (content_high (w.first ∷ w.others) (decoded_behind 0 (drop n more)) w.high w.scalar ∙ ap (λ cs. behind cs (content_of (drop n more))) (sym w.are)) in
    (ap content_of e ∙ (step ∙ (ap (λ xs. behind (chars xs) (content_of (drop (length xs) (b ∷ more)))) (sym is) ∙ ap (λ xs. behind (chars s) (content_of (drop (length s) xs))) (sym e))), omega (arith, ap length is), le)
