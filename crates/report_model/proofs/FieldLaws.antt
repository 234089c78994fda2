-- Fields of a line, both ways: what is read is spelled so, and what is spelled so is read.
use Rattle.std.proofs.Common.{◌≡◌, ℕ, ◌+◌, ◌^◌, ◌<◌, ◌%◌, Bool, true, false, cond, eqb, ltb, not, ◌&&◌, List, [], ◌∷◌, ◌++◌, Option, Some, None, decimal, refl, sym, ap, subst, ◌∙◌, arith, inl, inr, ◌⊎◌, bytes_eq}
use Rattle.std.specs.Prelude.{find}
use Rattle.std.specs.List.{list_all}
use Rattle.std.specs.Str.Parse.{digits_value}
use Rattle.std.proofs.lemmas.Bool.{eqb-true, eq-eqb, ltb-true, lt-ltb, and_parts, and_from, not-true}
use Rattle.std.proofs.lemmas.Bool.Decides.{nat_tests}
use Rattle.std.proofs.lemmas.Fmt.{decimal_by_steps, decimal_is_IsNumeral}
use Rattle.std.proofs.lemmas.List.Folds.{list_all-append}
use Rattle.std.proofs.lemmas.Option.{same_Some, none-some, cond_some}
use Rattle.std.proofs.lemmas.Slice.Eq.{bytes_eq-Decides}
use Rattle.report_model.specs.Fields.{◌>>=◌, with_first, cut, word_at, if_word, after, number_by, number_of, number_at, after_number, is_name, name_of, named}
use Rattle.report_model.specs.Words.{◌␣◌}

pub bind_some : {A B : Type 0} (o : Option A) (f : A → Option B) (y : B) → (o >>= f) ≡ Some y → (x : A) × (o ≡ Some x) × (f x ≡ Some y)
bind_some (Some x) f y e = (x, refl, e)
bind_some None f y e = absurd (none-some y e)

-- which way a test went
pub chosen : {A : Type 0} (b : Bool) (x y z : A) → cond b x y ≡ z → ((b ≡ true) × (x ≡ z)) ⊎ ((b ≡ false) × (y ≡ z))
chosen true x y z e = inl (refl, e)
chosen false x y z e = inr (refl, e)

pub same_bytes : (xs ys : List ℕ) → bytes_eq xs ys ≡ true → xs ≡ ys
same_bytes xs ys e = (bytes_eq-Decides xs ys).0 e

pub bytes_same : (xs : List ℕ) → bytes_eq xs xs ≡ true
bytes_same xs = (bytes_eq-Decides xs xs).1 refl

-- a list without a mark
abbrev pub spared : ℕ → List ℕ → Bool
spared mark xs = list_all (λ c. not (eqb c mark)) xs

pub spared-append : (mark : ℕ) (xs ys : List ℕ) → spared mark xs ≡ true → spared mark ys ≡ true → spared mark (xs ++ ys) ≡ true
spared-append mark xs ys ex ey = list_all-append (λ c. not (eqb c mark)) xs ys ∙ and_from _ _ ex ey

pub spared_word : (word rest : List ℕ) → spared 10 word ≡ true → spared 10 rest ≡ true → spared 10 (word ␣ rest) ≡ true
spared_word word rest ew er = spared-append 10 word (32 ∷ rest) ew er

-- ---- cuts

cut_first : (mark c : ℕ) (b : Bool) (word rest : List ℕ) (later : Option (List ℕ × List ℕ)) → b ≡ false → later ≡ Some (word, rest) → cond b (Some ([], rest)) (with_first c later) ≡ Some (c ∷ word, rest)
cut_first mark c b word rest later eb el = rw (eb, el) refl

pub cut_again : (mark : ℕ) (word rest : List ℕ) → spared mark word ≡ true → cut mark (word ++ mark ∷ rest) ≡ Some (word, rest)
cut_again mark [] rest e = rw (eq-eqb mark mark refl) refl
cut_again mark (c ∷ word) rest e =
    let parts = and_parts (not (eqb c mark)) (spared mark word) e in
    rw (not-true (eqb c mark) parts.0, cut_again mark word rest parts.1) refl

with_first_some : (c : ℕ) (o : Option (List ℕ × List ℕ)) (parts : List ℕ × List ℕ) → with_first c o ≡ Some parts → (p : List ℕ × List ℕ) × (o ≡ Some p) × ((c ∷ p.0, p.1) ≡ parts)
with_first_some c None parts e = absurd (none-some parts e)
with_first_some c (Some p) parts e = (p, refl, same_Some (c ∷ p.0, p.1) parts e)

pub cut_takes : (mark : ℕ) (text : List ℕ) (parts : List ℕ × List ℕ) → cut mark text ≡ Some parts → text ≡ parts.0 ++ mark ∷ parts.1
cut_takes mark [] parts e = absurd (none-some parts e)
cut_takes mark (c ∷ text) parts e =
    elim (chosen (eqb c mark) (Some ([], text)) (with_first c (cut mark text)) (Some parts) e) [
      | inl h ↦ subst (λ (p : List ℕ × List ℕ). c ∷ text ≡ p.0 ++ mark ∷ p.1) (same_Some ([], text) parts h.1) (ap (λ (x : ℕ). x ∷ text) (eqb-true c mark h.0))
      | inr h ↦
          let p = with_first_some c (cut mark text) parts h.1 in
          subst (λ (q : List ℕ × List ℕ). c ∷ text ≡ q.0 ++ mark ∷ q.1) p.2 (ap (λ (xs : List ℕ). c ∷ xs) (cut_takes mark text p.0 p.1))
    ]

pub word_takes : (text : List ℕ) (found : List ℕ × List ℕ) → word_at text ≡ Some found → text ≡ found.0 ␣ found.1
word_takes text found e = cut_takes 32 text found e

pub word_again : (word rest : List ℕ) → spared 32 word ≡ true → word_at (word ␣ rest) ≡ Some (word, rest)
word_again word rest e = cut_again 32 word rest e

-- ---- a word

pub if_word_takes : {A : Type 0} (word text : List ℕ) (x y : A) → if_word word text x ≡ Some y → (text ≡ word) × (x ≡ y)
if_word_takes word text x y e =
    let p = cond_some (bytes_eq text word) x y e in
    (same_bytes text word p.0, p.1)

pub if_word_again : {A : Type 0} (word : List ℕ) (x : A) → if_word word word x ≡ Some x
if_word_again word x = rw (bytes_same word) refl

pub after_takes : (word text rest : List ℕ) → after word text ≡ Some rest → text ≡ word ␣ rest
unfolding after
after_takes word text rest e =
    let found = bind_some (word_at text) (λ found. if_word word found.0 found.1) rest e in
    let same = if_word_takes word found.0.0 found.0.1 rest found.2 in
    word_takes text found.0 found.1 ∙ ap (λ w. w ␣ found.0.1) same.0 ∙ ap (λ r. word ␣ r) same.1

pub after_again : (word rest : List ℕ) → spared 32 word ≡ true → after word (word ␣ rest) ≡ Some rest
unfolding after
after_again word rest e = ap (λ o. o >>= λ found. if_word word found.0 found.1) (word_again word rest e) ∙ if_word_again word rest

-- ---- numbers

digit_spared : (mark d : ℕ) → mark < 48 → spared mark ((48 + d) ∷ []) ≡ true
digit_spared mark d lt = grind (arith, nat_tests)

pub decimal_spared : (mark n : ℕ) → mark < 48 → n < 2 ^ 64 → spared mark (decimal n) ≡ true
decimal_spared mark n lt fits =
    decimal_by_steps (λ n ds. spared mark ds ≡ true) (λ n small. digit_spared mark n lt) (λ n ds large e. spared-append mark ds ((48 + n % 10) ∷ []) e (digit_spared mark (n % 10) lt)) n fits

pub number_takes : (digits : List ℕ) (n : ℕ) → number_of digits ≡ Some n → (digits ≡ decimal n) × (n < 2 ^ 32)
unfolding number_of
number_takes digits n e =
    let value = digits_value 10 digits in
    let p = cond_some (ltb value (2 ^ 32) && bytes_eq digits (decimal value)) value n e in
    let both = and_parts (ltb value (2 ^ 32)) (bytes_eq digits (decimal value)) p.0 in
    (same_bytes digits (decimal value) both.1 ∙ ap decimal p.1, subst (λ k. k < 2 ^ 32) p.1 (ltb-true value (2 ^ 32) both.0))

pub number_again : (n : ℕ) → n < 2 ^ 32 → number_of (decimal n) ≡ Some n
unfolding number_of
number_again n lt =
    let value : digits_value 10 (decimal n) ≡ n = (decimal_is_IsNumeral n (omega arith)).1 in
    ap (λ k. number_by k (decimal n)) value ∙ rw (lt-ltb n (2 ^ 32) lt, bytes_same (decimal n)) refl

pub number_at_takes : (text : List ℕ) (found : ℕ × List ℕ) → number_at text ≡ Some found → (text ≡ decimal found.0 ␣ found.1) × (found.0 < 2 ^ 32)
unfolding number_at
number_at_takes text found e =
    let w = bind_some (word_at text) (λ w. number_of w.0 >>= λ n. Some (n, w.1)) found e in
    let n = bind_some (number_of w.0.0) (λ n. Some (n, w.0.1)) found w.2 in
    let t = number_takes w.0.0 n.0 n.1 in
    subst (λ (f : ℕ × List ℕ). (text ≡ decimal f.0 ␣ f.1) × (f.0 < 2 ^ 32)) (same_Some (n.0, w.0.1) found n.2) (word_takes text w.0 w.1 ∙ ap (λ x. x ␣ w.0.1) t.0, t.1)

pub number_at_again : (n : ℕ) (rest : List ℕ) → n < 2 ^ 32 → number_at (decimal n ␣ rest) ≡ Some (n, rest)
unfolding number_at
number_at_again n rest lt =
    ap (λ o. o >>= λ w. number_of w.0 >>= λ n. Some (n, w.1)) (word_again (decimal n) rest (decimal_spared 32 n (omega arith) (omega arith)))
    ∙ ap (λ o. o >>= λ n. Some (n, rest)) (number_again n lt)

pub after_number_takes : (k : ℕ) (text rest : List ℕ) → after_number k text ≡ Some rest → (text ≡ decimal k ␣ rest) × (k < 2 ^ 32)
unfolding after_number
after_number_takes k text rest e =
    let found = bind_some (number_at text) (λ found. cond (eqb found.0 k) (Some found.1) None) rest e in
    let p = cond_some (eqb found.0.0 k) found.0.1 rest found.2 in
    let t = number_at_takes text found.0 found.1 in
    let same : found.0.0 ≡ k = eqb-true found.0.0 k p.0 in
    (t.0 ∙ ap (λ x. decimal x ␣ found.0.1) same ∙ ap (λ x. decimal k ␣ x) p.1, subst (λ x. x < 2 ^ 32) same t.1)

pub after_number_again : (k : ℕ) (rest : List ℕ) → k < 2 ^ 32 → after_number k (decimal k ␣ rest) ≡ Some rest
unfolding after_number
after_number_again k rest lt =
    ap (λ o. o >>= λ found. cond (eqb found.0 k) (Some found.1) None) (number_at_again k rest lt) ∙ rw (eq-eqb k k refl) refl

-- ---- names and tables

pub name_takes : (text name : List ℕ) → name_of text ≡ Some name → (text ≡ name) × (is_name name ≡ true)
unfolding name_of
name_takes text name e =
    let p = cond_some (is_name text) text name e in
    (p.1, subst (λ x. is_name x ≡ true) p.1 p.0)

pub name_again : (name : List ℕ) → is_name name ≡ true → name_of name ≡ Some name
unfolding name_of
name_again name e = rw e refl

find_takes : {A : Type 0} (p : A → Bool) (xs : List A) (x : A) → find p xs ≡ Some x → p x ≡ true
find_takes p [] x e = absurd (none-some x e)
find_takes p (y ∷ ys) x e =
    elim (chosen (p y) (Some y) (find p ys) (Some x) e) [
      | inl h ↦ ap p (sym (same_Some y x h.1)) ∙ h.0
      | inr h ↦ find_takes p ys x h.1
    ]

pub named_takes : {A : Type 0} (spelling : A → List ℕ) (table : List A) (word : List ℕ) (x : A) → named spelling table word ≡ Some x → word ≡ spelling x
unfolding named
named_takes spelling table word x e = sym (same_bytes (spelling x) word (find_takes (λ y. bytes_eq (spelling y) word) table x e))
