-- The longest front that spells something, found by one pass: names, blanks, comments and line ends.
use Rattle.std.proofs.Common.{◌≡◌, ◌∙◌, sym, ap, refl, ℕ, zero, suc, ◌+◌, ◌<◌, ◌≤◌, Bool, true, false, cond, ◌&&◌, ◌||◌, not, List, [], ◌∷◌, length, take, Some, None, is_some, bytes_eq, ⊎_elim, arith}
use Rattle.std.specs.Prelude.{◌==◌}
use Rattle.std.specs.List.{prefix_len, list_all}
use Rattle.std.proofs.lemmas.Bool.Decides.{nat_tests}
use Rattle.std.proofs.lemmas.Slice.Eq.{bytes_eq-Decides}
use Rattle.std.proofs.str.Laws.{order}
use Rattle.std.proofs.Math.Bool.{or-false}
use Rattle.std.proofs.Math.Numerals.{one-add}
use Rattle.std.proofs.lemmas.List.Sums.{prefix_len-le-length}
use Rattle.py_language.specs.declared.token.Mark.{Mark}
use Rattle.py_language.specs.TokensCharacters.{is_letter, is_digit, is_word, is_blank, begins}
use Rattle.py_language.specs.TokensNames.{listed}
use Rattle.py_language.specs.TokensNumbers.{are_digits, is_based, is_digit_below}
use Rattle.py_language.specs.TokensMarks.{marks, mark_of, is_mark}
use Rattle.py_language.specs.TokensPieces.{is_comment, is_line_end, spells, longest_within, longest}
use Rattle.py_lexer.proofs.ClassLemmas.{below_get, exclusive}

pub longest_found : (m : ℕ) (z : List ℕ) (k : ℕ) → 0 < k → k ≤ m → spells (take k z) ≡ true → ((n : ℕ) → k < n → n ≤ m → spells (take n z) ≡ false) → longest_within m z ≡ k
longest_found zero z k lo le here longer = absurd (omega arith)
longest_found (suc m) z k lo le here longer =
    ⊎_elim
    (λ (lt : k < suc m). rw (longer (suc m) lt (omega arith)) (longest_found m z k lo (omega arith) here (λ n a b. longer n a (omega arith))))
    (λ (ge : suc m ≤ k). let e : k ≡ suc m = omega arith in let here' : spells (take (suc m) z) ≡ true = ap (λ n. spells (take n z)) (sym e) ∙ here in rw here' (sym e))
    (order k (suc m))

pub longest_none : (m : ℕ) (z : List ℕ) → ((n : ℕ) → 0 < n → n ≤ m → spells (take n z) ≡ false) → longest_within m z ≡ 0
longest_none zero z none = refl
longest_none (suc m) z none = rw (none (suc m) (omega arith) (omega arith)) (longest_none m z (λ n a b. none n a (omega arith)))

-- a text that begins with c, whose front of n more characters spells something where f n holds
module _ (c : ℕ) (cs : List ℕ) (f : ℕ → Bool) (spelt : (n : ℕ) → n ≤ length cs → spells (c ∷ take n cs) ≡ f n) where
  longer_by : (n : ℕ) → n ≤ suc (length cs) → ((m : ℕ) → suc m ≡ n → f m ≡ false) → 0 < n → spells (take n (c ∷ cs)) ≡ false
  longer_by zero le none lo = absurd (omega arith)
  longer_by (suc m) le none lo = spelt m (omega arith) ∙ none m refl

  pub longest_at : (k : ℕ) → k ≤ length cs → f k ≡ true → ((n : ℕ) → k < n → n ≤ length cs → f n ≡ false) → longest (c ∷ cs) ≡ suc k
  unfolding longest
  longest_at k le here none =
      longest_found (suc (length cs)) (c ∷ cs) (suc k) (omega arith) (omega arith) (spelt k le ∙ here)
      (λ n lt hi. longer_by n hi (λ m e. none m (omega arith) (omega arith)) (omega arith))

  pub longest_nothing : ((n : ℕ) → n ≤ length cs → f n ≡ false) → longest (c ∷ cs) ≡ 0
  unfolding longest
  longest_nothing none = longest_none (suc (length cs)) (c ∷ cs) (λ n lo hi. longer_by n hi (λ m e. none m (omega arith)) lo)

-- ---- the longest run of a class

module _ (p : ℕ → Bool) where
  passes_by : (b : Bool) (x : ℕ) (xs : List ℕ) → p x ≡ b → list_all p (take (prefix_len p xs) xs) ≡ true → list_all p (take (cond b (1 + prefix_len p xs) 0) (x ∷ xs)) ≡ true
  passes_by true x xs e h = rw (one-add (prefix_len p xs), e) h
  passes_by false x xs e h = refl

  pub run_passes : (xs : List ℕ) → list_all p (take (prefix_len p xs) xs) ≡ true
  run_passes [] = refl
  run_passes (x ∷ xs) = passes_by (p x) x xs refl (run_passes xs)

  stops_by : (b : Bool) (xs : List ℕ) (n : ℕ) → (prefix_len p xs < n → list_all p (take n xs) ≡ false) → cond b (1 + prefix_len p xs) 0 < suc n → (b && list_all p (take n xs)) ≡ false
  stops_by false xs n ih lt = refl
  stops_by true xs n ih lt = ih (omega arith)

  run_stops : (xs : List ℕ) (n : ℕ) → prefix_len p xs < n → n ≤ length xs → list_all p (take n xs) ≡ false
  run_stops [] n lt le = absurd (omega arith)
  run_stops (x ∷ xs) zero lt le = absurd (omega arith)
  run_stops (x ∷ xs) (suc n) lt le = stops_by (p x) xs n (λ lt. run_stops xs n lt (omega arith)) lt

  pub longest_run : (c : ℕ) (cs : List ℕ) → ((n : ℕ) → spells (c ∷ take n cs) ≡ list_all p (take n cs)) → longest (c ∷ cs) ≡ suc (prefix_len p cs)
  longest_run c cs spelt = longest_at c cs (λ n. list_all p (take n cs)) (λ n le. spelt n) (prefix_len p cs) (prefix_len-le-length p cs) (run_passes cs) (run_stops cs)

-- ---- texts that are no mark

-- no row of a table passes
abbrev pub none_pass : {X : Type 0} → (List ℕ → Bool) → List (List ℕ × X) → Bool
none_pass p rows = list_all (λ r. not (p r.0)) rows

no_row_by : {X : Type 0} (p : List ℕ → Bool) (a b : Bool) (row : List ℕ × X) (rows : List (List ℕ × X)) (text : List ℕ) → bytes_eq text row.0 ≡ a → p row.0 ≡ b → (not b && none_pass p rows) ≡ true → p text ≡ true
    → (none_pass p rows ≡ true → listed rows text ≡ None) → cond a (Some row.1) (listed rows text) ≡ None
no_row_by p a true row rows text ea eb h t ih = absurd (cc)
no_row_by p false false row rows text ea eb h t ih = ih h
no_row_by p true false row rows text ea eb h t ih = let is : text ≡ row.0 = (bytes_eq-Decides text row.0).0 ea in let wrong : true ≡ false = sym t ∙ (ap p is ∙ eb) in absurd (cc)

pub no_row : {X : Type 0} (p : List ℕ → Bool) (rows : List (List ℕ × X)) (text : List ℕ) → none_pass p rows ≡ true → p text ≡ true → listed rows text ≡ None
no_row p [] text h t = refl
no_row p (row ∷ rows) text h t = no_row_by p (bytes_eq text row.0) (p row.0) row rows text refl refl h t (λ e. no_row p rows text e t)

pub no_mark : (p : List ℕ → Bool) (text : List ℕ) → none_pass p marks ≡ true → p text ≡ true → mark_of text ≡ None
unfolding mark_of
no_mark p text h t = no_row p marks text h t

-- ---- the classes of a first character

abbrev pub is_known : ℕ → Bool
is_known c = is_letter c || (is_digit c || (is_blank c || (c == 35 || (c == 10 || (c == 34 || c == 39)))))

known_apart : (c : ℕ) → c < 256 → (not (is_known c) || none_pass (begins (λ d. d == c)) marks) ≡ true
unfolding marks
known_apart c lt = below_get 256 (λ d. not (is_known d) || none_pass (begins (λ e. e == d)) marks) refl c lt

known_by : (k s : Bool) → (not k || s) ≡ true → k ≡ true → s ≡ true
known_by true s h e = h
known_by false s h e = absurd (cc)

pub known_no_mark : (c : ℕ) (x : List ℕ) → c < 256 → is_known c ≡ true → mark_of (c ∷ x) ≡ None
known_no_mark c x lt k = no_mark (begins (λ d. d == c)) (c ∷ x) (known_by (is_known c) (none_pass (begins (λ d. d == c)) marks) (known_apart c lt) k) (grind (arith, nat_tests))

-- what spells something, by the classes of the first character
spells_by : (c : ℕ) (x : List ℕ) (l d m b : Bool) → is_letter c ≡ l → is_digit c ≡ d → is_mark (c ∷ x) ≡ m → is_blank c ≡ b
    → spells (c ∷ x) ≡ ((l && list_all is_word x) || ((d && cond (c == 48) (are_digits (is_digit_below 1) x || is_based x) (are_digits (is_digit_below 10) x)) || (m || ((b && list_all is_blank x) || (is_comment (c ∷ x) || is_line_end (c ∷ x))))))
unfolding spells
spells_by c x l d m b el ed em eb = rw (el, ed, em, eb) refl

pub longest_name : (c : ℕ) (cs : List ℕ) → c < 256 → is_letter c ≡ true → longest (c ∷ cs) ≡ suc (prefix_len is_word cs)
longest_name c cs lt e =
    longest_run is_word c cs (λ n. let x = take n cs in
    let d : is_digit c ≡ false = exclusive is_letter is_digit refl c lt e in
    let b : is_blank c ≡ false = exclusive is_letter is_blank refl c lt e in
    let s : (c == 35) ≡ false = exclusive is_letter (λ d. d == 35) refl c lt e in
    let f : (c == 10) ≡ false = exclusive is_letter (λ d. d == 10) refl c lt e in
    spells_by c x true false false false e d (ap is_some (known_no_mark c x lt (rw e refl))) b ∙ rw (s, f) (or-false (list_all is_word x)))

pub longest_blanks : (c : ℕ) (cs : List ℕ) → c < 256 → is_blank c ≡ true → longest (c ∷ cs) ≡ suc (prefix_len is_blank cs)
longest_blanks c cs lt e =
    longest_run is_blank c cs (λ n. let x = take n cs in
    let l : is_letter c ≡ false = exclusive is_blank is_letter refl c lt e in
    let d : is_digit c ≡ false = exclusive is_blank is_digit refl c lt e in
    let s : (c == 35) ≡ false = exclusive is_blank (λ d. d == 35) refl c lt e in
    let f : (c == 10) ≡ false = exclusive is_blank (λ d. d == 10) refl c lt e in
    spells_by c x false false false true l d (ap is_some (known_no_mark c x lt (rw (l, d, e) refl))) e ∙ rw (s, f) (or-false (list_all is_blank x)))

pub longest_comment : (cs : List ℕ) → longest (35 ∷ cs) ≡ suc (prefix_len (λ d. not (d == 10)) cs)
longest_comment cs =
    longest_run (λ d. not (d == 10)) 35 cs (λ n. let x = take n cs in
    spells_by 35 x false false false false refl refl (ap is_some (known_no_mark 35 x (omega arith) refl)) refl ∙ or-false (list_all (λ d. not (d == 10)) x))

alone_by : (n : ℕ) (cs : List ℕ) → 0 < n → n ≤ length cs → bytes_eq (take n cs) [] ≡ false
alone_by zero cs lo le = absurd (omega arith)
alone_by (suc n) [] lo le = absurd (omega arith)
alone_by (suc n) (c ∷ cs) lo le = refl

pub longest_line_end : (cs : List ℕ) → longest (10 ∷ cs) ≡ 1
longest_line_end cs =
    longest_at 10 cs (λ n. bytes_eq (take n cs) []) (λ n le. spells_by 10 (take n cs) false false false false refl refl (ap is_some (known_no_mark 10 (take n cs) (omega arith) refl)) refl) 0 (omega arith) refl (λ n lo le. alone_by n cs lo le)

-- a first character of no other class
pub other_spells : (c : ℕ) (x : List ℕ) → is_letter c ≡ false → is_digit c ≡ false → is_blank c ≡ false → (c == 35) ≡ false → (c == 10) ≡ false → spells (c ∷ x) ≡ is_mark (c ∷ x)
other_spells c x l d b s f = spells_by c x false false (is_mark (c ∷ x)) false l d refl b ∙ rw (s, f) (or-false (is_mark (c ∷ x)))

pub digit_spells : (c : ℕ) (x : List ℕ) → c < 256 → is_digit c ≡ true → spells (c ∷ x) ≡ cond (c == 48) (are_digits (is_digit_below 1) x || is_based x) (are_digits (is_digit_below 10) x)
digit_spells c x lt e =
    let l : is_letter c ≡ false = exclusive is_digit is_letter refl c lt e in
    let b : is_blank c ≡ false = exclusive is_digit is_blank refl c lt e in
    let s : (c == 35) ≡ false = exclusive is_digit (λ d. d == 35) refl c lt e in
    let f : (c == 10) ≡ false = exclusive is_digit (λ d. d == 10) refl c lt e in
    spells_by c x false true false false l e (ap is_some (known_no_mark c x lt (rw (l, e) refl))) b ∙ rw (s, f) (or-false _)
