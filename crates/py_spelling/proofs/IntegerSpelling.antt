-- Integers: what they spell, and where they end.
use Rattle.std.proofs.Common.{◌≡◌, ◌∙◌, sym, ap, refl, ℕ, ◌+◌, ◌-◌, ◌/◌, ◌%◌, ◌^◌, ◌<◌, ◌≤◌, Bool, true, false, cond, ◌&&◌, ◌||◌, not, List, [], ◌∷◌, ◌++◌, None, arith, decimal}
use Rattle.std.specs.Prelude.{◌==◌, nat_le, nat_lt, pos}
use Rattle.std.specs.List.{list_all}
use Rattle.std.specs.Char.{digit_value}
use Rattle.std.proofs.lemmas.Fmt.{decimal_by_steps_wide}
use Rattle.std.proofs.lemmas.List.Folds.{list_all-append}
use Rattle.std.proofs.lemmas.Bool.Decides.{nat_tests}
use Rattle.py_language.specs.declared.token.Token.TheVariants as t
use Rattle.py_language.specs.TokensCharacters.{is_letter, is_digit, is_word, is_blank, is_quote, begins}
use Rattle.py_language.specs.TokensNumbers.{is_digit_below, are_digits, base_of, is_nil, is_based, number_from, base_in, behind_first, integer_value}
use Rattle.py_language.specs.TokensFaults.{fault_by, number_fault}
use Rattle.py_spelling.specs.Spelling.{ends_before}
use Rattle.py_spelling.proofs.Longest.{digit_spells, exclusive}
use Rattle.py_spelling.proofs.Fronts.{Ends, EndsAt, piece_front}
use Rattle.py_spelling.proofs.WordSpelling.{and_both, or_both, not_true, digit_low, is_inline, all_weaker, Follows, Spelt}

-- ---- the digits of a number

pub record Numeral (n : ℕ) (ds : List ℕ) : Type 0 where
  pub c : ℕ
  pub cs : List ℕ
  pub are : ds ≡ c ∷ cs
  pub digits : list_all is_digit (c ∷ cs) ≡ true
  pub zero_alone : c ≡ 48 → cs ≡ []
  pub value : number_from 10 0 (c ∷ cs) ≡ n

digit_is : (r : ℕ) → r < 10 → is_digit (48 + r) ≡ true
digit_is r lt = let a : nat_le 48 (48 + r) ≡ true = grind (arith, nat_tests) in let b : nat_le (48 + r) 57 ≡ true = grind (arith, nat_tests) in rw (a, b) refl

no_line : (r : ℕ) → r < 10 → (48 + r == 95) ≡ false
no_line r lt = grind (arith, nat_tests)

value_of : (r : ℕ) → r < 10 → digit_value (48 + r) ≡ r
value_of r lt =
    let a : nat_lt (48 + r) 48 ≡ false = grind (arith, nat_tests) in
    let b : nat_lt (48 + r) 58 ≡ true = grind (arith, nat_tests) in
    let e : 48 + r - 48 ≡ r = omega arith in
    rw (a, b) e

from_append : (xs : List ℕ) (n d : ℕ) → number_from 10 n (xs ++ d ∷ []) ≡ number_from 10 (number_from 10 n xs) (d ∷ [])
from_append [] n d = refl
from_append (x ∷ xs) n d = from_append xs _ d

one_digit : (n : ℕ) → n < 10 → Numeral n ((48 + n) ∷ [])
one_digit n lt = record {
  c = 48 + n;
  cs = [];
  are = refl;
  digits = rw (digit_is n lt) refl;
  zero_alone = λ e. refl;
  value = rw (no_line n lt, value_of n lt) (omega arith);
}

more_digits : (n : ℕ) (ds : List ℕ) → 10 ≤ n → Numeral (n / 10) ds → Numeral n (ds ++ ((48 + n % 10) ∷ []))
more_digits n ds le w =
    let r : n % 10 < 10 = omega arith in
    record {
      c = w.c;
      cs = w.cs ++ (48 + n % 10) ∷ [];
      are = ap (λ xs. xs ++ (48 + n % 10) ∷ []) w.are;
      digits = list_all-append is_digit (w.c ∷ w.cs) ((48 + n % 10) ∷ []) ∙ rw (w.digits, digit_is (n % 10) r) refl;
      zero_alone = λ e. let alone = w.zero_alone e in
          let nothing : number_from 10 0 (48 ∷ []) ≡ n / 10 = ap (λ x. number_from 10 0 (x ∷ [])) (sym e) ∙ ap (λ xs. number_from 10 0 (w.c ∷ xs)) (sym alone) ∙ w.value in
          let none : 0 ≡ n / 10 = nothing in
          absurd (omega arith);
      value = from_append (w.c ∷ w.cs) 0 (48 + n % 10) ∙ ap (λ v. number_from 10 v ((48 + n % 10) ∷ [])) w.value ∙ rw (no_line (n % 10) r, value_of (n % 10) r) (omega arith);
    }

pub numeral : (n : ℕ) → n < 10 ^ 64 → Numeral n (decimal n)
numeral n lt = decimal_by_steps_wide Numeral one_digit more_digits n lt

-- ---- where it ends

below_ten : (c : ℕ) → is_digit c ≡ true → is_digit_below 10 c ≡ true
below_ten c e =
    let two = and_both (nat_le 48 c) (nat_le c 57) e in
    let lo : 48 ≤ c = grind (arith, nat_tests) in
    let hi : c ≤ 57 = grind (arith, nat_tests) in
    let a : nat_lt c 48 ≡ false = grind (arith, nat_tests) in
    let b : nat_lt c 58 ≡ true = grind (arith, nat_tests) in
    let f : nat_lt (c - 48) 10 ≡ true = grind (arith, nat_tests) in
    rw (a, b) f

digits_are : (cs : List ℕ) → list_all is_digit cs ≡ true → are_digits (is_digit_below 10) cs ≡ true
digits_are [] e = refl
digits_are (c ∷ cs) e = let two = and_both (is_digit c) (list_all is_digit cs) e in rw (below_ten c two.0, digits_are cs two.1) refl

spelt_by : (c : ℕ) (cs : List ℕ) (v : Bool) → (c == 48) ≡ v → (c ≡ 48 → cs ≡ []) → list_all is_digit cs ≡ true → cond v (are_digits (is_digit_below 1) cs || is_based cs) (are_digits (is_digit_below 10) cs) ≡ true
spelt_by c cs true e z ds = let is : c ≡ 48 = grind (arith, nat_tests) in rw (z is) refl
spelt_by c cs false e z ds = digits_are cs ds

stops_here : (p : ℕ → Bool) (xs more : List ℕ) (d : ℕ) → p d ≡ false → (d == 95) ≡ false → are_digits p (xs ++ d ∷ more) ≡ false
stops_here p [] more d e f = rw (e, f) refl
stops_here p (x ∷ xs) more d e f = rw (stops_here p xs more d e f) (never (p x || (x == 95 && begins p (xs ++ d ∷ more))))
  where
    never : (v : Bool) → (v && false) ≡ false
    never true = refl
    never false = refl

record Apart (d : ℕ) : Type 0 where
  one : is_digit_below 1 d ≡ false
  ten : is_digit_below 10 d ≡ false
  line : (d == 95) ≡ false
  base : base_of d ≡ 0

-- a number below n is of a digit alone, or of a letter
digit_apart : (d : ℕ) → is_word d ≡ false → is_digit_below 10 d ≡ false
digit_apart d e = apart_by (nat_lt d 48) (nat_lt d 58) (nat_lt d 65) (nat_lt d 91) (nat_lt d 97) (nat_lt d 123) refl refl refl refl refl refl
  where
    word : (is_letter d ≡ false) × (is_digit d ≡ false)
    word = or_both (is_letter d) (is_digit d) e

    apart_by : (a b f g h i : Bool) → nat_lt d 48 ≡ a → nat_lt d 58 ≡ b → nat_lt d 65 ≡ f → nat_lt d 91 ≡ g → nat_lt d 97 ≡ h → nat_lt d 123 ≡ i
        → nat_lt (cond a 36 (cond b (d - 48) (cond f 36 (cond g (d - 55) (cond h 36 (cond i (d - 87) 36)))))) 10 ≡ false
    apart_by true b f g h i ea eb ef eg eh ei = refl
    apart_by false true f g h i ea eb ef eg eh ei =
        let lo : nat_le 48 d ≡ true = grind (arith, nat_tests) in
        let hi : nat_le d 57 ≡ true = grind (arith, nat_tests) in
        let wrong : true ≡ false = sym (rw (lo, hi) refl) ∙ word.1 in absurd (cc)
    apart_by false false true g h i ea eb ef eg eh ei = refl
    apart_by false false false true h i ea eb ef eg eh ei = grind (arith, nat_tests)
    apart_by false false false false true i ea eb ef eg eh ei = refl
    apart_by false false false false false true ea eb ef eg eh ei = grind (arith, nat_tests)
    apart_by false false false false false false ea eb ef eg eh ei = refl

one_below : (d : ℕ) → is_digit_below 10 d ≡ false → is_digit_below 1 d ≡ false
one_below d e = below (digit_value d) e
  where
    below : (v : ℕ) → nat_lt v 10 ≡ false → nat_lt v 1 ≡ false
    below v e = grind (arith, nat_tests)

-- a character that is no word is none of these
other_than : (k d : ℕ) → is_word k ≡ true → is_word d ≡ false → (d == k) ≡ false
other_than k d w e = same_by (d == k) refl
  where
    same_by : (v : Bool) → (d == k) ≡ v → v ≡ false
    same_by true s = let is : d ≡ k = grind (arith, nat_tests) in let wrong : true ≡ false = sym w ∙ ap is_word (sym is) ∙ e in absurd (cc)
    same_by false s = refl

apart : (d : ℕ) → is_word d ≡ false → Apart d
apart d e = record {
  one = one_below d (digit_apart d e);
  ten = digit_apart d e;
  line = other_than 95 d refl e;
  base = rw (other_than 120 d refl e, other_than 88 d refl e, other_than 111 d refl e, other_than 79 d refl e, other_than 98 d refl e, other_than 66 d refl e) refl;
}

no_digits : (cs : List ℕ) → (not (is_nil cs) && are_digits (is_digit_below 0) cs) ≡ false
no_digits [] = refl
no_digits (c ∷ cs) = rw (none c) (line (c == 95) cs)
  where
    none : (c : ℕ) → is_digit_below 0 c ≡ false
    none c = never (digit_value c)
      where
        never : (v : ℕ) → nat_lt v 0 ≡ false
        never v = grind (arith, nat_tests)

    off : (cs : List ℕ) → begins (is_digit_below 0) cs ≡ false
    off [] = refl
    off (c ∷ cs) = none c

    line : (v : Bool) (cs : List ℕ) → ((v && begins (is_digit_below 0) cs) && are_digits (is_digit_below 0) cs) ≡ false
    line true cs = rw (off cs) refl
    line false cs = refl

ends_by : (c : ℕ) (cs : List ℕ) (d : ℕ) (more : List ℕ) (v : Bool) → (c == 48) ≡ v → (c ≡ 48 → cs ≡ []) → Apart d
    → cond v (are_digits (is_digit_below 1) (cs ++ d ∷ more) || is_based (cs ++ d ∷ more)) (are_digits (is_digit_below 10) (cs ++ d ∷ more)) ≡ false
ends_by c cs d more true e z a =
    let is : c ≡ 48 = grind (arith, nat_tests) in
    rw (z is, a.one, a.line, a.base) (no_digits more)
ends_by c cs d more false e z a = stops_here (is_digit_below 10) cs more d a.ten a.line

integer_ends : (c : ℕ) (cs : List ℕ) (d : ℕ) → is_digit c ≡ true → (c ≡ 48 → cs ≡ []) → is_word d ≡ false → Ends (c ∷ cs) d
integer_ends c cs d e z w = λ more. digit_spells c (cs ++ d ∷ more) (digit_low c e) e ∙ ends_by c cs d more (c == 48) refl z (apart d w)

-- ---- its value

value_by : (c : ℕ) (cs : List ℕ) (v : Bool) → (c == 48) ≡ v → (c ≡ 48 → cs ≡ []) → cond (v && nat_lt 0 (base_in cs)) (number_from (base_in cs) 0 (behind_first cs)) (number_from 10 0 (c ∷ cs)) ≡ number_from 10 0 (c ∷ cs)
value_by c cs true e z = let is : c ≡ 48 = grind (arith, nat_tests) in rw (z is) refl
value_by c cs false e z = refl

module _ (n : ℕ) (small : nat_lt n (2 ^ 127) ≡ true) where
  end_parts : (d : ℕ) → ends_before (t.Int (pos n)) d ≡ true → (is_word d ≡ false) × ((d == 46) ≡ false)
  end_parts d e = or_both (is_word d) (d == 46) (not_true _ e)

  integer_at : (c : ℕ) (cs after : List ℕ) → is_digit c ≡ true → (c ≡ 48 → cs ≡ []) → Follows (t.Int (pos n)) after → EndsAt (c ∷ cs) after
  integer_at c cs [] l z f = tt
  integer_at c cs (d ∷ more) l z f = integer_ends c cs d l z (end_parts d f).0

  no_more : (after : List ℕ) → Follows (t.Int (pos n)) after → begins (λ c. is_word c || c == 46) after ≡ false
  no_more [] f = refl
  no_more (d ∷ more) f = let two = end_parts d f in rw (two.0, two.1) refl

  integer_fault : (c : ℕ) (cs after : List ℕ) (h : Bool) (before : List (List ℕ)) → is_digit c ≡ true → integer_value (c ∷ cs) ≡ n → Follows (t.Int (pos n)) after → fault_by h before c cs after ≡ None
  unfolding fault_by number_fault
  integer_fault c cs after h before l v f =
      let q : is_quote c ≡ false = exclusive is_digit is_quote refl c (digit_low c l) l in
      let a : is_letter c ≡ false = exclusive is_digit is_letter refl c (digit_low c l) l in
      let few : nat_lt (integer_value (c ∷ cs)) (2 ^ 127) ≡ true = ap (λ k. nat_lt k (2 ^ 127)) v ∙ small in
      rw (q, a, l, no_more after f, few) refl

  digit_inline : (d : ℕ) → is_digit d ≡ true → is_inline d ≡ true
  digit_inline d e = let a = exclusive is_digit (λ x. x == 10) refl d (digit_low d e) e in let b = exclusive is_digit (λ x. x == 13) refl d (digit_low d e) e in rw (a, b) refl

  pub integer_spelt : Spelt (t.Int (pos n))
  integer_spelt =
      let lt : n < 2 ^ 127 = grind (arith, nat_tests) in
      let w = numeral n (omega arith) in
      let two = and_both (is_digit w.c) (list_all is_digit w.cs) w.digits in
      let l = two.0 in
      let lo = digit_low w.c l in
      let value : integer_value (w.c ∷ w.cs) ≡ n = value_by w.c w.cs (w.c == 48) refl w.zero_alone ∙ w.value in
      let q : is_quote w.c ≡ false = exclusive is_digit is_quote refl w.c lo l in
      let a : is_letter w.c ≡ false = exclusive is_digit is_letter refl w.c lo l in
      record {
        c = w.c;
        cs = w.cs;
        text = w.are;
        cut = λ after f. piece_front w.c w.cs after q (digit_spells w.c w.cs lo l ∙ spelt_by w.c w.cs (w.c == 48) refl w.zero_alone two.1) (integer_at w.c w.cs after l w.zero_alone f);
        token = rw (a, l) (ap (λ k. t.Int (pos k) ∷ []) value);
        inline = all_weaker is_digit is_inline (w.c ∷ w.cs) digit_inline w.digits;
        solid = exclusive is_digit is_blank refl w.c lo l;
        first = exclusive is_digit (λ d. 239 == d) refl w.c lo l;
        fault = λ h before after f b. integer_fault w.c w.cs after h before l value f;
      }
