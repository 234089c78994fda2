-- The longest integer, found by one pass.
use Rattle.std.proofs.Common.{◌≡◌, ◌∙◌, sym, ap, refl, ℕ, zero, suc, ◌+◌, ◌<◌, ◌≤◌, Bool, true, false, cond, ◌&&◌, ◌||◌, List, [], ◌∷◌, length, take, arith}
use Rattle.std.specs.Prelude.{◌==◌}
use Rattle.std.proofs.Math.Bool.{and-false, or-true}
use Rattle.std.proofs.lemmas.Bool.Decides.{nat_tests}
use Rattle.std.proofs.Math.Numerals.{one-add}
use Rattle.py_language.specs.TokensCharacters.{is_digit, begins}
use Rattle.py_language.specs.TokensNumbers.{are_digits, is_based, is_digit_below, base_of, is_nil}
use Rattle.py_language.specs.TokensPieces.{longest}
use Rattle.py_lexer.specs.Scan.{digits_len, one_more, based_len, zero_more, integer_more}
use Rattle.py_lexer.proofs.ClassLemmas.{and_both}
use Rattle.py_lexer.proofs.LongestLemmas.{longest_at, digit_spells}

module _ (p : ℕ → Bool) where
  fits_by : (v : Bool) (n m : ℕ) → n ≤ m → cond v (1 + n) 0 ≤ suc m
  fits_by true n m le = omega arith
  fits_by false n m le = omega arith

  pub digits_fit : (cs : List ℕ) → digits_len p cs ≤ length cs
  digits_fit [] = omega arith
  digits_fit (c ∷ cs) = fits_by (p c || (c == 95 && begins p cs)) (digits_len p cs) (length cs) (digits_fit cs)

  -- where a digit begins the text, it begins the digits
  begins_taken : (cs : List ℕ) → begins p cs ≡ true → begins p (take (digits_len p cs) cs) ≡ true
  begins_taken [] e = e
  begins_taken (c ∷ cs) e = rw (e, one-add (digits_len p cs)) e

  step_by : (v w : Bool) (c : ℕ) (cs : List ℕ) → p c ≡ v → (c == 95 && begins p cs) ≡ w → are_digits p (take (digits_len p cs) cs) ≡ true → (begins p cs ≡ true → begins p (take (digits_len p cs) cs) ≡ true)
      → are_digits p (take (cond (v || w) (1 + digits_len p cs) 0) (c ∷ cs)) ≡ true
  step_by true w c cs ev ew ih first = rw (one-add (digits_len p cs), ev) ih
  step_by false false c cs ev ew ih first = refl
  step_by false true c cs ev ew ih first =
      let two = and_both (c == 95) (begins p cs) ew in
      rw (one-add (digits_len p cs), ev, two.0, first two.1) ih

  pub digits_pass : (cs : List ℕ) → are_digits p (take (digits_len p cs) cs) ≡ true
  digits_pass [] = refl
  digits_pass (c ∷ cs) = step_by (p c) (c == 95 && begins p cs) c cs refl refl (digits_pass cs) (begins_taken cs)

  begins_front : (n : ℕ) (cs : List ℕ) → begins p (take n cs) ≡ true → begins p cs ≡ true
  begins_front zero cs e = absurd (cc)
  begins_front (suc n) [] e = e
  begins_front (suc n) (c ∷ cs) e = e

  stops_by : (v u w x rest : Bool) (n k : ℕ) → (w ≡ true → x ≡ true) → cond (v || (u && x)) (1 + k) 0 < suc n → (k < n → rest ≡ false) → ((v || (u && w)) && rest) ≡ false
  stops_by true u w x rest n k f lt ih = ih (omega arith)
  stops_by false false w x rest n k f lt ih = refl
  stops_by false true false x rest n k f lt ih = refl
  stops_by false true true true rest n k f lt ih = ih (omega arith)
  stops_by false true true false rest n k f lt ih = let wrong : false ≡ true = f refl in absurd (cc)

  pub digits_stop : (cs : List ℕ) (n : ℕ) → digits_len p cs < n → n ≤ length cs → are_digits p (take n cs) ≡ false
  digits_stop [] n lt le = absurd (omega arith)
  digits_stop (c ∷ cs) zero lt le = absurd (omega arith)
  digits_stop (c ∷ cs) (suc n) lt le = stops_by (p c) (c == 95) (begins p (take n cs)) (begins p cs) (are_digits p (take n cs)) n (digits_len p cs) (begins_front n cs) lt (λ less. digits_stop cs n less (omega arith))

-- ---- after `0`

based_fits_by : (d m : ℕ) → d ≤ m → one_more d ≤ suc m
based_fits_by zero m le = omega arith
based_fits_by (suc d) m le = omega arith

pub based_fits : (cs : List ℕ) → based_len cs ≤ length cs
based_fits [] = omega arith
based_fits (c ∷ cs) = based_fits_by (digits_len (is_digit_below (base_of c)) cs) (length cs) (digits_fit (is_digit_below (base_of c)) cs)

abbrev is_zeros : List ℕ → Bool
is_zeros x = are_digits (is_digit_below 1) x

zero_is : (m : ℕ) → is_digit_below 1 m ≡ true → m ≡ 48
zero_is m e = grind (arith, nat_tests)

pub no_base : (cs : List ℕ) → digits_len (is_digit_below 0) cs ≡ 0
no_base [] = refl
no_base (c ∷ cs) =
    let here : is_digit_below 0 c ≡ false = grind (arith, nat_tests) in
    let next : begins (is_digit_below 0) cs ≡ false = none_begins cs in
    rw (here, next, and-false (c == 95)) refl
  where
    none_begins : (xs : List ℕ) → begins (is_digit_below 0) xs ≡ false
    none_begins [] = refl
    none_begins (x ∷ xs) = grind (arith, nat_tests)

base_not : (m k : ℕ) (ds : List ℕ) (d : ℕ) → base_of k ≡ 0 → digits_len (is_digit_below (base_of m)) ds ≡ suc d → (m == k) ≡ false
base_not m k ds d z e = not_by (m == k) refl
  where
    not_by : (v : Bool) → (m == k) ≡ v → v ≡ false
    not_by false t = refl
    not_by true t =
        let is : m ≡ k = grind (arith, nat_tests) in
        let none : digits_len (is_digit_below (base_of m)) ds ≡ 0 = ap (λ b. digits_len (is_digit_below b) ds) (ap base_of is ∙ z) ∙ no_base ds in
        absurd (let wrong : suc d ≡ 0 = sym e ∙ none in cc)

-- a base's letter is no zero and no `_`
base_apart : (m : ℕ) (ds : List ℕ) (d : ℕ) → digits_len (is_digit_below (base_of m)) ds ≡ suc d → (xs : List ℕ) → is_zeros (m ∷ xs) ≡ false
base_apart m ds d e xs =
    let mark : (m == 95) ≡ false = base_not m 95 ds d refl e in
    rw (zero_by (is_digit_below 1 m) refl, mark) refl
  where
    zero_by : (v : Bool) → is_digit_below 1 m ≡ v → v ≡ false
    zero_by false t = refl
    zero_by true t = let same : (m == 48) ≡ true = (let is : m ≡ 48 = zero_is m t in grind (arith, nat_tests)) in let other : (m == 48) ≡ false = base_not m 48 ds d refl e in absurd (cc)

not_nil : (n : ℕ) (ds : List ℕ) → 0 < n → n ≤ length ds → is_nil (take n ds) ≡ false
not_nil zero ds lo le = absurd (omega arith)
not_nil (suc n) [] lo le = absurd (omega arith)
not_nil (suc n) (d ∷ ds) lo le = refl

abbrev front : List ℕ → ℕ → Bool
front cs n = is_zeros (take n cs) || is_based (take n cs)

-- with a base's letter, and d + 1 digits after it
based_here : (m : ℕ) (ds : List ℕ) (d : ℕ) → digits_len (is_digit_below (base_of m)) ds ≡ suc d → front (m ∷ ds) (suc (suc d)) ≡ true
based_here m ds d e =
    let p = is_digit_below (base_of m) in
    let le : suc d ≤ length ds = omega (arith, digits_fit p ds) in
    let pass : are_digits p (take (suc d) ds) ≡ true = ap (λ n. are_digits p (take n ds)) (sym e) ∙ digits_pass p ds in
    rw (not_nil (suc d) ds (omega arith) le, pass) (or-true (is_zeros (m ∷ take (suc d) ds)))

based_above : (m : ℕ) (ds : List ℕ) (d : ℕ) → digits_len (is_digit_below (base_of m)) ds ≡ suc d → (n : ℕ) → suc (suc d) < n → n ≤ suc (length ds) → front (m ∷ ds) n ≡ false
based_above m ds d e zero lt le = absurd (omega arith)
based_above m ds d e (suc n) lt le =
    let p = is_digit_below (base_of m) in
    let stop : are_digits p (take n ds) ≡ false = digits_stop p ds n (omega arith) (omega arith) in
    rw (base_apart m ds d e (take n ds), not_nil n ds (omega arith) (omega arith), stop) refl

-- without digits of a base
one_more_zero : (n : ℕ) → one_more n ≡ 0 → n ≡ 0
one_more_zero zero e = refl
one_more_zero (suc n) e = absurd (cc)

no_based : (cs : List ℕ) → based_len cs ≡ 0 → (n : ℕ) → n ≤ length cs → is_based (take n cs) ≡ false
no_based [] e zero le = refl
no_based [] e (suc n) le = refl
no_based (m ∷ ds) e zero le = refl
no_based (m ∷ ds) e (suc n) le =
    let none = one_more_zero (digits_len (is_digit_below (base_of m)) ds) e in
    based_by n (omega arith) none
  where
    based_by : (n : ℕ) → n ≤ length ds → digits_len (is_digit_below (base_of m)) ds ≡ 0 → is_based (m ∷ take n ds) ≡ false
    based_by zero le none = refl
    based_by (suc n) le none = rw (not_nil (suc n) ds (omega arith) le, digits_stop (is_digit_below (base_of m)) ds (suc n) (omega arith) le) refl

zeros_here : (cs : List ℕ) → front cs (digits_len (is_digit_below 1) cs) ≡ true
zeros_here cs = rw (digits_pass (is_digit_below 1) cs) refl

zeros_above : (cs : List ℕ) → based_len cs ≡ 0 → (n : ℕ) → digits_len (is_digit_below 1) cs < n → n ≤ length cs → front cs n ≡ false
zeros_above cs e n lt le = rw (digits_stop (is_digit_below 1) cs n lt le, no_based cs e n le) refl

pub zero_fits : (cs : List ℕ) (b : ℕ) → based_len cs ≡ b → zero_more b cs ≤ length cs
zero_fits cs zero e = digits_fit (is_digit_below 1) cs
zero_fits cs (suc b) e = omega (arith, based_fits cs)

zero_front : (cs : List ℕ) (b : ℕ) → based_len cs ≡ b → front cs (zero_more b cs) ≡ true
zero_front cs zero e = zeros_here cs
zero_front [] (suc b) e = absurd (cc)
zero_front (m ∷ ds) (suc b) e = one_by (digits_len (is_digit_below (base_of m)) ds) refl e
  where
    one_by : (d : ℕ) → digits_len (is_digit_below (base_of m)) ds ≡ d → one_more d ≡ suc b → front (m ∷ ds) (suc b) ≡ true
    one_by zero f g = absurd (cc)
    one_by (suc d) f g = ap (front (m ∷ ds)) (sym g) ∙ based_here m ds d f

zero_above : (cs : List ℕ) (b : ℕ) → based_len cs ≡ b → (n : ℕ) → zero_more b cs < n → n ≤ length cs → front cs n ≡ false
zero_above cs zero e n lt le = zeros_above cs e n lt le
zero_above [] (suc b) e n lt le = absurd (cc)
zero_above (m ∷ ds) (suc b) e n lt le = one_by (digits_len (is_digit_below (base_of m)) ds) refl e
  where
    one_by : (d : ℕ) → digits_len (is_digit_below (base_of m)) ds ≡ d → one_more d ≡ suc b → front (m ∷ ds) n ≡ false
    one_by zero f g = absurd (cc)
    one_by (suc d) f g = based_above m ds d f n (omega arith) le

pub integer_fits : (c : ℕ) (cs : List ℕ) → integer_more c cs ≤ length cs
integer_fits c cs = fits_by_zero (c == 48)
  where
    fits_by_zero : (v : Bool) → cond v (zero_more (based_len cs) cs) (digits_len (is_digit_below 10) cs) ≤ length cs
    fits_by_zero true = zero_fits cs (based_len cs) refl
    fits_by_zero false = digits_fit (is_digit_below 10) cs

pub longest_integer : (c : ℕ) (cs : List ℕ) → c < 256 → is_digit c ≡ true → longest (c ∷ cs) ≡ suc (integer_more c cs)
longest_integer c cs lt e = integer_by (c == 48) refl
  where
    integer_by : (v : Bool) → (c == 48) ≡ v → longest (c ∷ cs) ≡ suc (cond v (zero_more (based_len cs) cs) (digits_len (is_digit_below 10) cs))
    integer_by true z =
        longest_at c cs (front cs) (λ n le. digit_spells c (take n cs) lt e ∙ ap (λ v. cond v (front cs n) (are_digits (is_digit_below 10) (take n cs))) z)
        (zero_more (based_len cs) cs) (zero_fits cs (based_len cs) refl) (zero_front cs (based_len cs) refl) (zero_above cs (based_len cs) refl)
    integer_by false z =
        longest_at c cs (λ n. are_digits (is_digit_below 10) (take n cs)) (λ n le. digit_spells c (take n cs) lt e ∙ ap (λ v. cond v (front cs n) (are_digits (is_digit_below 10) (take n cs))) z)
        (digits_len (is_digit_below 10) cs) (digits_fit (is_digit_below 10) cs) (digits_pass (is_digit_below 10) cs) (digits_stop (is_digit_below 10) cs)
