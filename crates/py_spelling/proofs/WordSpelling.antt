-- What each kind of token spells, and where it ends.
use Rattle.std.proofs.Common.{◌≡◌, ◌∙◌, sym, ap, refl, ℕ, suc, ◌<◌, ◌≤◌, Bool, true, false, ◌&&◌, ◌||◌, not, List, [], ◌∷◌, ◌++◌, length, Option, Some, None, is_none, arith}
use Rattle.std.specs.Prelude.{◌==◌, nat_le, map}
use Rattle.std.specs.List.{list_all}
use Rattle.std.proofs.lemmas.List.Folds.{list_all-append}
use Rattle.std.proofs.lemmas.Bool.Decides.{nat_tests}
use Rattle.py_language.specs.declared.token.Token.{Token}
use Rattle.py_language.specs.declared.token.Token.TheVariants as t
use Rattle.py_language.specs.declared.token.Keyword.{Keyword}
use Rattle.py_language.specs.declared.token.Keyword.TheVariants as k
use Rattle.py_language.specs.TokensCharacters.{is_letter, is_digit, is_word, is_blank, is_quote, begins}
use Rattle.py_language.specs.TokensNames.{is_name, listed, keywords, keyword_or_name, name_token, is_string_prefix, keywords_of_2, keywords_of_3, keywords_of_4, keywords_of_5, keywords_of_6, keywords_of_7, keywords_of_8}
use Rattle.py_language.specs.TokensPieces.{spells, piece_len}
use Rattle.py_language.specs.TokensLines.{token_by, open_after}
use Rattle.py_language.specs.TokensFaults.{fault_by, name_fault}
use Rattle.py_spelling.specs.Spelling.{keyword_text, spelled, ends_before, fits_by}
use Rattle.py_spelling.proofs.Longest.{spells_by, or_false, known_no_mark, exclusive}
use Rattle.py_spelling.proofs.Fronts.{Ends, EndsAt, piece_front}

-- ---- classes of characters

low_by : (p : ℕ → Bool) (c : ℕ) (v : Bool) → nat_le 256 c ≡ v → ((d : ℕ) → 256 ≤ d → p d ≡ false) → p c ≡ true → c < 256
low_by p c true t high e = let wrong : false ≡ true = sym (high c (grind (arith, nat_tests))) ∙ e in absurd (cc)
low_by p c false t high e = grind (arith, nat_tests)

and_false : (v : Bool) → (v && false) ≡ false
and_false true = refl
and_false false = refl

pub letter_low : (c : ℕ) → is_letter c ≡ true → c < 256
letter_low c e = low_by is_letter c (nat_le 256 c) refl high e
  where
    high : (d : ℕ) → 256 ≤ d → is_letter d ≡ false
    high d h =
        let a : nat_le d 90 ≡ false = grind (arith, nat_tests) in
        let b : nat_le d 122 ≡ false = grind (arith, nat_tests) in
        let f : (d == 95) ≡ false = grind (arith, nat_tests) in
        rw (a, b, f, and_false (nat_le 65 d), and_false (nat_le 97 d)) refl

pub digit_low : (c : ℕ) → is_digit c ≡ true → c < 256
digit_low c e = low_by is_digit c (nat_le 256 c) refl high e
  where
    high : (d : ℕ) → 256 ≤ d → is_digit d ≡ false
    high d h = let g : nat_le d 57 ≡ false = grind (arith, nat_tests) in rw (g, and_false (nat_le 48 d)) refl

pub or_both : (a b : Bool) → (a || b) ≡ false → (a ≡ false) × (b ≡ false)
or_both false b e = (refl, e)
or_both true b e = absurd (cc)

pub and_both : (a b : Bool) → (a && b) ≡ true → (a ≡ true) × (b ≡ true)
and_both true b e = (refl, e)
and_both false b e = absurd (cc)

pub not_true : (a : Bool) → not a ≡ true → a ≡ false
not_true false e = refl
not_true true e = absurd (cc)

abbrev pub is_inline : ℕ → Bool
is_inline d = not (d == 10 || d == 13)

pub all_weaker : (p q : ℕ → Bool) (xs : List ℕ) → ((d : ℕ) → p d ≡ true → q d ≡ true) → list_all p xs ≡ true → list_all q xs ≡ true
all_weaker p q [] f e = refl
all_weaker p q (x ∷ xs) f e = let two = and_both (p x) (list_all p xs) e in rw (f x two.0, all_weaker p q xs f two.1) refl

-- ---- what is said of each token's text

-- the text is empty, or the token ends before its first character
abbrev pub Follows : Token → List ℕ → Type 0
Follows x [] = Unit {0}
Follows x (d ∷ more) = ends_before x d ≡ true

abbrev pub openings : List (List ℕ) → List ℕ
openings before = map (λ (o : ℕ × ℕ). o.1) (open_after before)

pub record Spelt (x : Token) : Type 0 where
  pub c : ℕ
  pub cs : List ℕ
  pub text : spelled x ≡ c ∷ cs
  pub cut : (after : List ℕ) → Follows x after → piece_len c (cs ++ after) ≡ suc (length cs)
  pub token : token_by c cs ≡ x ∷ []
  pub inline : list_all is_inline (c ∷ cs) ≡ true
  pub solid : is_blank c ≡ false
  pub first : (239 == c) ≡ false
  pub fault : (h : Bool) (before : List (List ℕ)) (after : List ℕ) → Follows x after → fits_by (openings before) c ≡ true → fault_by h before c cs after ≡ None

-- ---- names and keywords

pub letter_spells : (c : ℕ) (x : List ℕ) → is_letter c ≡ true → spells (c ∷ x) ≡ list_all is_word x
letter_spells c x e =
    let lt = letter_low c e in
    let d : is_digit c ≡ false = exclusive is_letter is_digit refl c lt e in
    let b : is_blank c ≡ false = exclusive is_letter is_blank refl c lt e in
    let s : (c == 35) ≡ false = exclusive is_letter (λ d. d == 35) refl c lt e in
    let f : (c == 10) ≡ false = exclusive is_letter (λ d. d == 10) refl c lt e in
    spells_by c x true false false false e d (known_no_mark c x lt (rw e refl)) b ∙ rw (s, f) (or_false (list_all is_word x))

stopped : (p : ℕ → Bool) (xs more : List ℕ) (d : ℕ) → p d ≡ false → list_all p (xs ++ d ∷ more) ≡ false
stopped p xs more d e = list_all-append p xs (d ∷ more) ∙ rw e (and_false (list_all p xs))

name_ends : (c : ℕ) (cs : List ℕ) (d : ℕ) → is_letter c ≡ true → is_word d ≡ false → Ends (c ∷ cs) d
name_ends c cs d e w = λ more. letter_spells c (cs ++ d ∷ more) e ∙ stopped is_word cs more d w

word_inline : (d : ℕ) → is_word d ≡ true → is_inline d ≡ true
word_inline d e = inline_by (d == 10) (d == 13) refl refl
  where
    inline_by : (a b : Bool) → (d == 10) ≡ a → (d == 13) ≡ b → not (a || b) ≡ true
    inline_by true b ea eb = let is : d ≡ 10 = grind (arith, nat_tests) in let wrong : is_word 10 ≡ true = ap is_word (sym is) ∙ e in absurd (cc)
    inline_by false true ea eb = let is : d ≡ 13 = grind (arith, nat_tests) in let wrong : is_word 13 ≡ true = ap is_word (sym is) ∙ e in absurd (cc)
    inline_by false false ea eb = refl

letter_word : (c : ℕ) → is_letter c ≡ true → is_word c ≡ true
letter_word c e = rw e refl

-- a token whose text is a name
module _ (x : Token) (ends : (d : ℕ) → ends_before x d ≡ not (is_word d || is_quote d)) where
  parts : (d : ℕ) → ends_before x d ≡ true → (is_word d ≡ false) × (is_quote d ≡ false)
  parts d e = or_both (is_word d) (is_quote d) (not_true _ (sym (ends d) ∙ e))

  word_at : (c : ℕ) (cs after : List ℕ) → is_letter c ≡ true → Follows x after → EndsAt (c ∷ cs) after
  word_at c cs [] l f = tt
  word_at c cs (d ∷ more) l f = name_ends c cs d l (parts d f).0

  no_quote : (after : List ℕ) → Follows x after → begins is_quote after ≡ false
  no_quote [] f = refl
  no_quote (d ∷ more) f = (parts d f).1

  word_fault : (c : ℕ) (cs after : List ℕ) (h : Bool) (before : List (List ℕ)) → is_letter c ≡ true → Follows x after → fault_by h before c cs after ≡ None
  unfolding fault_by name_fault
  word_fault c cs after h before l f =
      let q : is_quote c ≡ false = exclusive is_letter is_quote refl c (letter_low c l) l in
      let n = no_quote after f in
      rw (q, l, n, and_false (is_string_prefix (c ∷ cs))) refl

  word_by : (n : List ℕ) → spelled x ≡ n → is_name n ≡ true → name_token n ≡ x → Spelt x
  word_by [] is e tok = absurd (cc)
  word_by (c ∷ cs) is e tok =
      let two = and_both (is_letter c) (list_all is_word cs) e in
      let l = two.0 in
      let lt = letter_low c l in
      let q : is_quote c ≡ false = exclusive is_letter is_quote refl c lt l in
      record {
        c = c;
        cs = cs;
        text = is;
        cut = λ after f. piece_front c cs after q (letter_spells c cs l ∙ two.1) (word_at c cs after l f);
        token = rw l (ap (λ y. y ∷ []) tok);
        inline = rw (word_inline c (letter_word c l), all_weaker is_word is_inline cs word_inline two.1) refl;
        solid = exclusive is_letter is_blank refl c lt l;
        first = exclusive is_letter (λ d. 239 == d) refl c lt l;
        fault = λ h before after f b. word_fault c cs after h before l f;
      }

none_is : {X : Type 0} (o : Option X) → is_none o ≡ true → o ≡ None
none_is None e = refl
none_is (Some y) e = absurd (cc)

pub name_spelt : (n : List ℕ) → (is_name n && is_none (listed keywords n)) ≡ true → Spelt (t.Name n)
unfolding name_token
name_spelt n e = let two = and_both (is_name n) (is_none (listed keywords n)) e in word_by (t.Name n) (λ d. refl) n refl two.0 (ap (keyword_or_name n) (none_is (listed keywords n) two.1))

keyword_name : (key : Keyword) → is_name (keyword_text key) ≡ true
keyword_name k.As = refl
keyword_name k.If = refl
keyword_name k.In = refl
keyword_name k.Is = refl
keyword_name k.Or = refl
keyword_name k.And = refl
keyword_name k.Def = refl
keyword_name k.Del = refl
keyword_name k.For = refl
keyword_name k.Not = refl
keyword_name k.Try = refl
keyword_name k.NoneLit = refl
keyword_name k.TrueLit = refl
keyword_name k.Elif = refl
keyword_name k.Else = refl
keyword_name k.From = refl
keyword_name k.Pass = refl
keyword_name k.With = refl
keyword_name k.FalseLit = refl
keyword_name k.Async = refl
keyword_name k.Await = refl
keyword_name k.Break = refl
keyword_name k.Class = refl
keyword_name k.Raise = refl
keyword_name k.While = refl
keyword_name k.Yield = refl
keyword_name k.Assert = refl
keyword_name k.Except = refl
keyword_name k.Global = refl
keyword_name k.Import = refl
keyword_name k.Lambda = refl
keyword_name k.Return = refl
keyword_name k.Finally = refl
keyword_name k.Continue = refl
keyword_name k.Nonlocal = refl

keyword_token : (key : Keyword) → name_token (keyword_text key) ≡ t.Keyword key
unfolding name_token keywords_of_2 keywords_of_3 keywords_of_4 keywords_of_5 keywords_of_6 keywords_of_7 keywords_of_8
keyword_token k.As = refl
keyword_token k.If = refl
keyword_token k.In = refl
keyword_token k.Is = refl
keyword_token k.Or = refl
keyword_token k.And = refl
keyword_token k.Def = refl
keyword_token k.Del = refl
keyword_token k.For = refl
keyword_token k.Not = refl
keyword_token k.Try = refl
keyword_token k.NoneLit = refl
keyword_token k.TrueLit = refl
keyword_token k.Elif = refl
keyword_token k.Else = refl
keyword_token k.From = refl
keyword_token k.Pass = refl
keyword_token k.With = refl
keyword_token k.FalseLit = refl
keyword_token k.Async = refl
keyword_token k.Await = refl
keyword_token k.Break = refl
keyword_token k.Class = refl
keyword_token k.Raise = refl
keyword_token k.While = refl
keyword_token k.Yield = refl
keyword_token k.Assert = refl
keyword_token k.Except = refl
keyword_token k.Global = refl
keyword_token k.Import = refl
keyword_token k.Lambda = refl
keyword_token k.Return = refl
keyword_token k.Finally = refl
keyword_token k.Continue = refl
keyword_token k.Nonlocal = refl

pub keyword_spelt : (key : Keyword) → Spelt (t.Keyword key)
keyword_spelt key = word_by (t.Keyword key) (λ d. refl) (keyword_text key) refl (keyword_name key) (keyword_token key)
