-- Lines of tokens are read back.
use Rattle.std.proofs.Common.{◌≡◌, ◌∙◌, sym, ap, refl, subst, ℕ, zero, suc, ◌+◌, Bool, true, false, cond, ◌&&◌, List, [], ◌∷◌, ◌++◌, length, drop, replicate, is_some, Option, Some, None, arith, append-nil}
use Rattle.std.specs.Prelude.{◌==◌, map}
use Rattle.std.specs.List.{list_all, list_any}
use Rattle.std.proofs.lemmas.List.Folds.{list_all-append}
use Rattle.py_language.specs.declared.token.Token.{Token}
use Rattle.py_language.specs.declared.token.Mark.{Mark}
use Rattle.py_language.specs.declared.token.Logical.{Logical}
use Rattle.py_language.specs.declared.token.Tokens.{Tokens}
use Rattle.py_language.specs.TokensCharacters.{is_blank, begins}
use Rattle.py_language.specs.TokensMarks.{mark_of, is_opening, is_closing}
use Rattle.py_language.specs.TokensPieces.{spells, piece_len, pieces_behind}
use Rattle.py_language.specs.TokensLines.{Brackets, token_by, mark_token, line_feeds, line_after, open_after, is_line_end_in, ends_line, column_after, with_tokens, line_begun, lines_ended}
use Rattle.py_language.specs.TokensFaults.{fault_by, blank_fault}
use Rattle.py_language.specs.Tokens.{unless_fault, tokens_behind}
use Rattle.py_spelling.specs.Spelling.{spelled, fits_by, open_by, fits_text, open_text}
use Rattle.py_spelling.proofs.Longest.{spells_by, known_no_mark, or_false}
use Rattle.py_spelling.proofs.Fronts.{Ends, EndsAt, piece_front, piece_off}
use Rattle.py_spelling.proofs.Pieces.{joined}
use Rattle.py_spelling.proofs.WordSpelling.{and_both, or_both, not_true, is_inline, Follows, Spelt, openings}

-- ---- reading goes on, piece by piece

abbrev pub reading : Bool → List (List ℕ) → List ℕ → Tokens
reading h before text = tokens_behind h before (pieces_behind 0 text)

goes : (h : Bool) (before : List (List ℕ)) (c : ℕ) (cs after : List ℕ) → piece_len c (cs ++ after) ≡ suc (length cs) → fault_by h before c cs after ≡ None
    → reading h before (c ∷ (cs ++ after)) ≡ reading h ((c ∷ cs) ∷ before) after
goes h before c cs after len fine =
    ap (tokens_behind h before) (piece_off c cs after len)
    ∙ ap (λ xs. unless_fault (fault_by h before c cs xs) before (reading h ((c ∷ cs) ∷ before) after)) (joined after)
    ∙ ap (λ f. unless_fault f before (reading h ((c ∷ cs) ∷ before) after)) fine

-- ---- what is before a place

pub record State (before : List (List ℕ)) (os : List ℕ) (begun : Option Logical) (ls : List Logical) (n : ℕ) : Type 0 where
  pub opened : openings before ≡ os
  pub begun_is : line_begun before ≡ begun
  pub ended : lines_ended before ≡ ls
  pub line_is : line_after before ≡ n

line_end_by : (os : Brackets) (c : ℕ) (cs : List ℕ) → (c == 10) ≡ false → is_line_end_in os (c ∷ cs) ≡ false
line_end_by [] c cs e = rw e refl
line_end_by (o ∷ os) c cs e = refl

goes_on_line : (c : ℕ) (cs : List ℕ) (before : List (List ℕ)) → (c == 10) ≡ false → ends_line (c ∷ cs) before ≡ false
unfolding ends_line
goes_on_line c cs before e = line_end_by (open_after before) c cs e

no_feeds : (xs : List ℕ) → list_all is_inline xs ≡ true → line_feeds xs ≡ 0
no_feeds [] e = refl
no_feeds (x ∷ xs) e =
    let two = and_both (is_inline x) (list_all is_inline xs) e in
    let one = or_both (x == 10) (x == 13) (not_true _ two.0) in
    rw one.0 (let ih : 0 + line_feeds xs ≡ 0 = (let h = no_feeds xs two.1 in omega arith) in ih)

opened_by : (c line : ℕ) (os : Brackets) (a b : Bool) → map (λ (o : ℕ × ℕ). o.1) (cond a ((line, c) ∷ os) (cond b (drop 1 os) os)) ≡ cond a (c ∷ map (λ (o : ℕ × ℕ). o.1) os) (cond b (drop 1 (map (λ (o : ℕ × ℕ). o.1) os)) (map (λ (o : ℕ × ℕ). o.1) os))
opened_by c line os true b = refl
opened_by c line [] false true = refl
opened_by c line (o ∷ os) false true = refl
opened_by c line os false false = refl

first_inline : (c : ℕ) (cs : List ℕ) → list_all is_inline (c ∷ cs) ≡ true → (c == 10) ≡ false
first_inline c cs e = (or_both (c == 10) (c == 13) (not_true _ (and_both (is_inline c) (list_all is_inline cs) e).0)).0

-- a piece that ends no line
state_more : (c : ℕ) (cs : List ℕ) (before : List (List ℕ)) (os : List ℕ) (begun : Option Logical) (ls : List Logical) (n : ℕ) → list_all is_inline (c ∷ cs) ≡ true
    → State before os begun ls n → State ((c ∷ cs) ∷ before) (open_by os c) (with_tokens (token_by c cs) n (column_after before) begun) ls n
unfolding line_begun lines_ended line_after open_after
state_more c cs before os begun ls n i s =
    let stays = goes_on_line c cs before (first_inline c cs i) in
    record {
      opened = opened_by c (line_after before) (open_after before) (is_opening c) (is_closing c) ∙ ap (λ xs. open_by xs c) s.opened;
      begun_is = rw stays (ap (λ k. with_tokens (token_by c cs) k (column_after before) (line_begun before)) s.line_is ∙ ap (with_tokens (token_by c cs) n (column_after before)) s.begun_is);
      ended = rw stays (append-nil (lines_ended before) ∙ s.ended);
      line_is = (let f = no_feeds (c ∷ cs) i in let l = s.line_is in omega (arith, f, l));
    }

-- ---- tokens

fits_here : (before : List (List ℕ)) (os : List ℕ) (c : ℕ) → openings before ≡ os → fits_by os c ≡ true → fits_by (openings before) c ≡ true
fits_here before os c e f = ap (λ xs. fits_by xs c) e ∙ f

pub token_read : (h : Bool) (x : Token) (w : Spelt x) (before : List (List ℕ)) (os after : List ℕ) → openings before ≡ os → fits_text os (spelled x) ≡ true → Follows x after
    → reading h before (spelled x ++ after) ≡ reading h ((w.c ∷ w.cs) ∷ before) after
token_read h x w before os after e f fol =
    let fits : fits_by os w.c ≡ true = ap (fits_text os) (sym w.text) ∙ f in
    ap (λ xs. reading h before (xs ++ after)) w.text ∙ goes h before w.c w.cs after (w.cut after fol) (w.fault h before after fol (fits_here before os w.c e fits))

pub token_state : (x : Token) (w : Spelt x) (before : List (List ℕ)) (os : List ℕ) (begun : Option Logical) (ls : List Logical) (n : ℕ) → State before os begun ls n
    → State ((w.c ∷ w.cs) ∷ before) (open_text os (spelled x)) (with_tokens (x ∷ []) n (column_after before) begun) ls n
token_state x w before os begun ls n s =
    let more = state_more w.c w.cs before os begun ls n w.inline s in
    let a : State ((w.c ∷ w.cs) ∷ before) (open_by os w.c) (with_tokens (x ∷ []) n (column_after before) begun) ls n = subst (λ ts. State ((w.c ∷ w.cs) ∷ before) (open_by os w.c) (with_tokens ts n (column_after before) begun) ls n) w.token more in
    subst (λ o. State ((w.c ∷ w.cs) ∷ before) o (with_tokens (x ∷ []) n (column_after before) begun) ls n) (sym (ap (open_text os) w.text)) a

-- ---- spaces

blank_spells : (x : List ℕ) → spells (32 ∷ x) ≡ list_all is_blank x
blank_spells x = spells_by 32 x false false false true refl refl (known_no_mark 32 x (omega arith) refl) refl ∙ or_false (list_all is_blank x)

all_blank : (k : ℕ) → list_all is_blank (replicate k 32) ≡ true
all_blank zero = refl
all_blank (suc k) = all_blank k

no_tab : (k : ℕ) → list_any (λ c. c == 9) (replicate k 32) ≡ false
no_tab zero = refl
no_tab (suc k) = no_tab k

spaces_inline : (k : ℕ) → list_all is_inline (replicate k 32) ≡ true
spaces_inline zero = refl
spaces_inline (suc k) = spaces_inline k

blank_at : (k : ℕ) (after : List ℕ) → begins is_blank after ≡ false → EndsAt (32 ∷ replicate k 32) after
blank_at k [] e = tt
blank_at k (d ∷ more) e = λ rest. blank_spells (replicate k 32 ++ d ∷ rest) ∙ list_all-append is_blank (replicate k 32) (d ∷ rest) ∙ rw e (never (list_all is_blank (replicate k 32)))
  where
    never : (v : Bool) → (v && false) ≡ false
    never true = refl
    never false = refl

blank_fine : (h : Bool) (before : List (List ℕ)) (k : ℕ) (after : List ℕ) → fault_by h before 32 (replicate k 32) after ≡ None
unfolding fault_by blank_fault
blank_fine h before k after = rw (no_tab k) refl

pub blank_read : (h : Bool) (before : List (List ℕ)) (k : ℕ) (after : List ℕ) → begins is_blank after ≡ false → reading h before (replicate (suc k) 32 ++ after) ≡ reading h (replicate (suc k) 32 ∷ before) after
blank_read h before k after e = goes h before 32 (replicate k 32) after (piece_front 32 (replicate k 32) after refl (blank_spells (replicate k 32) ∙ all_blank k) (blank_at k after e)) (blank_fine h before k after)

blank_token : (k : ℕ) → token_by 32 (replicate k 32) ≡ []
blank_token k = none_by (mark_of (32 ∷ replicate k 32)) (known_no_mark 32 (replicate k 32) (omega arith) refl)
  where
    none_by : (o : Option Mark) → is_some o ≡ false → mark_token o ≡ []
    none_by None e = refl
    none_by (Some x) e = absurd (cc)

pub blank_state : (k : ℕ) (before : List (List ℕ)) (os : List ℕ) (begun : Option Logical) (ls : List Logical) (n : ℕ) → State before os begun ls n → State (replicate (suc k) 32 ∷ before) os begun ls n
blank_state k before os begun ls n s =
    let more = state_more 32 (replicate k 32) before os begun ls n (spaces_inline k) s in
    subst (λ ts. State (replicate (suc k) 32 ∷ before) os (with_tokens ts n (column_after before) begun) ls n) (blank_token k) more

-- ---- the end of a line

feed_spells : (d : ℕ) → Ends (10 ∷ []) d
feed_spells d = λ more. spells_by 10 (d ∷ more) false false false false refl refl (known_no_mark 10 (d ∷ more) (omega arith) refl) refl

feed_at : (after : List ℕ) → EndsAt (10 ∷ []) after
feed_at [] = tt
feed_at (d ∷ more) = feed_spells d

feed_fine : (h : Bool) (before : List (List ℕ)) (after : List ℕ) → fault_by h before 10 [] after ≡ None
unfolding fault_by
feed_fine h before after = refl

pub feed_read : (h : Bool) (before : List (List ℕ)) (after : List ℕ) → reading h before (10 ∷ after) ≡ reading h ((10 ∷ []) ∷ before) after
feed_read h before after = goes h before 10 [] after (piece_front 10 [] after refl feed_is (feed_at after)) (feed_fine h before after)
  where
    feed_is : spells (10 ∷ []) ≡ true
    feed_is = spells_by 10 [] false false false false refl refl (known_no_mark 10 [] (omega arith) refl) refl

-- a place where a logical line begins
pub record Begins (before : List (List ℕ)) (ls : List Logical) (n : ℕ) : Type 0 where
  pub at : State before [] None ls n
  pub column_is : column_after before ≡ 0

pub nothing_open : (os : Brackets) → map (λ (o : ℕ × ℕ). o.1) os ≡ [] → os ≡ []
nothing_open [] e = refl
nothing_open (o ∷ os) e = absurd (cc)

pub feed_state : (before : List (List ℕ)) (l : Logical) (ls : List Logical) (n : ℕ) → State before [] (Some l) ls n → Begins ((10 ∷ []) ∷ before) (ls ++ l ∷ []) (n + 1)
unfolding line_begun lines_ended line_after open_after ends_line
feed_state before l ls n s =
    let none = nothing_open (open_after before) s.opened in
    record {
      at = record {
        opened = s.opened;
        begun_is = rw none refl;
        ended = rw (none, s.begun_is, s.ended) refl;
        line_is = ap (λ k. k + 1) s.line_is;
      };
      column_is = refl;
    }
