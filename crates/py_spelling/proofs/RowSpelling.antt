-- Rows of tokens, one after another, are read back.
use Rattle.std.proofs.Common.{arith, ◌≡◌, ◌∙◌, sym, ap, refl, subst, ℕ, zero, suc, ◌+◌, Bool, true, false, ◌&&◌, ◌||◌, not, List, [], ◌∷◌, ◌++◌, replicate, Option, Some, None, inl, inr, append_assoc, append-nil}
use Rattle.std.specs.Prelude.{◌==◌, map}
use Rattle.std.specs.List.{list_all}
use Rattle.std.proofs.lemmas.List.Folds.{list_all-append}
use Rattle.std.proofs.lemmas.List.{length-replicate}
use Rattle.std.specs.Prelude.{◌⊎◌}
use Rattle.py_language.specs.declared.token.Token.{Token}
use Rattle.py_language.specs.declared.token.Token.TheVariants as t
use Rattle.py_language.specs.declared.token.Mark.{Mark}
use Rattle.py_language.specs.declared.token.Mark.TheVariants as m
use Rattle.py_language.specs.declared.token.Logical.{Logical}
use Rattle.py_language.specs.TokensCharacters.{is_blank, begins, has_order_mark, missing_end, with_line_feeds, lines_of}
use Rattle.py_language.specs.TokensMarks.{marks}
use Rattle.py_language.specs.TokensPieces.{pieces_of}
use Rattle.py_language.specs.TokensLines.{ends_line, line_after, open_after, column_after, line_begun, lines_ended}
use Rattle.py_language.specs.Tokens.{tokens_of}
use Rattle.py_spelling.specs.Spelling.{spelled, is_sound, ends_before, may_touch, Spaced, space, spaced_text, Row, row_text, rows_text, row_tokens, is_spaced, fits_text, open_text, is_balanced, is_row, are_rows, logical, logicals, RowsReadBack}
use Rattle.py_spelling.proofs.WordSpelling.{and_both, or_both, not_true, is_inline, Follows, Spelt, openings}
use Rattle.py_spelling.proofs.TokenSpelling.{spelt}
use Rattle.py_spelling.proofs.LineSpelling.{nothing_open, reading, State, Begins, token_read, token_state, blank_read, blank_state, feed_read, feed_state}

-- ---- each token ends before a space and before a line's end

mark_space : (x : Mark) → ends_before (t.Mark x) 32 ≡ true
unfolding marks
mark_space m.Plus = refl
mark_space m.Minus = refl
mark_space m.Star = refl
mark_space m.DoubleStar = refl
mark_space m.Slash = refl
mark_space m.DoubleSlash = refl
mark_space m.Percent = refl
mark_space m.At = refl
mark_space m.LeftShift = refl
mark_space m.RightShift = refl
mark_space m.Ampersand = refl
mark_space m.Pipe = refl
mark_space m.Caret = refl
mark_space m.Tilde = refl
mark_space m.Walrus = refl
mark_space m.Less = refl
mark_space m.Greater = refl
mark_space m.LessEqual = refl
mark_space m.GreaterEqual = refl
mark_space m.EqualEqual = refl
mark_space m.NotEqual = refl
mark_space m.LeftParen = refl
mark_space m.RightParen = refl
mark_space m.LeftBracket = refl
mark_space m.RightBracket = refl
mark_space m.LeftBrace = refl
mark_space m.RightBrace = refl
mark_space m.Comma = refl
mark_space m.Colon = refl
mark_space m.Dot = refl
mark_space m.Semicolon = refl
mark_space m.Equal = refl
mark_space m.Arrow = refl
mark_space m.Ellipsis = refl
mark_space m.PlusEqual = refl
mark_space m.MinusEqual = refl
mark_space m.StarEqual = refl
mark_space m.SlashEqual = refl
mark_space m.DoubleSlashEqual = refl
mark_space m.PercentEqual = refl
mark_space m.AtEqual = refl
mark_space m.AmpersandEqual = refl
mark_space m.PipeEqual = refl
mark_space m.CaretEqual = refl
mark_space m.RightShiftEqual = refl
mark_space m.LeftShiftEqual = refl
mark_space m.DoubleStarEqual = refl

mark_feed : (x : Mark) → ends_before (t.Mark x) 10 ≡ true
unfolding marks
mark_feed m.Plus = refl
mark_feed m.Minus = refl
mark_feed m.Star = refl
mark_feed m.DoubleStar = refl
mark_feed m.Slash = refl
mark_feed m.DoubleSlash = refl
mark_feed m.Percent = refl
mark_feed m.At = refl
mark_feed m.LeftShift = refl
mark_feed m.RightShift = refl
mark_feed m.Ampersand = refl
mark_feed m.Pipe = refl
mark_feed m.Caret = refl
mark_feed m.Tilde = refl
mark_feed m.Walrus = refl
mark_feed m.Less = refl
mark_feed m.Greater = refl
mark_feed m.LessEqual = refl
mark_feed m.GreaterEqual = refl
mark_feed m.EqualEqual = refl
mark_feed m.NotEqual = refl
mark_feed m.LeftParen = refl
mark_feed m.RightParen = refl
mark_feed m.LeftBracket = refl
mark_feed m.RightBracket = refl
mark_feed m.LeftBrace = refl
mark_feed m.RightBrace = refl
mark_feed m.Comma = refl
mark_feed m.Colon = refl
mark_feed m.Dot = refl
mark_feed m.Semicolon = refl
mark_feed m.Equal = refl
mark_feed m.Arrow = refl
mark_feed m.Ellipsis = refl
mark_feed m.PlusEqual = refl
mark_feed m.MinusEqual = refl
mark_feed m.StarEqual = refl
mark_feed m.SlashEqual = refl
mark_feed m.DoubleSlashEqual = refl
mark_feed m.PercentEqual = refl
mark_feed m.AtEqual = refl
mark_feed m.AmpersandEqual = refl
mark_feed m.PipeEqual = refl
mark_feed m.CaretEqual = refl
mark_feed m.RightShiftEqual = refl
mark_feed m.LeftShiftEqual = refl
mark_feed m.DoubleStarEqual = refl

space_ends : (x : Token) → ends_before x 32 ≡ true
space_ends (t.Name n) = refl
space_ends (t.Keyword k) = refl
space_ends (t.Int n) = refl
space_ends (t.Str s) = refl
space_ends (t.Mark m) = mark_space m

feed_ends : (x : Token) → ends_before x 10 ≡ true
feed_ends (t.Name n) = refl
feed_ends (t.Keyword k) = refl
feed_ends (t.Int n) = refl
feed_ends (t.Str s) = refl
feed_ends (t.Mark m) = mark_feed m

touch_follows : (a : Token) (text after : List ℕ) → begins (ends_before a) text ≡ true → Follows a (text ++ after)
touch_follows a [] after e = absurd (cc)
touch_follows a (c ∷ cs) after e = e

abbrev are_sound : List Spaced → Bool
are_sound xs = list_all is_sound (map (λ (x : Spaced). x.1) xs)

gap_follows : (g : Bool) (a : Token) (text after : List ℕ) → (g || begins (ends_before a) text) ≡ true → Follows a (space g ++ (text ++ after))
gap_follows true a text after e = space_ends a
gap_follows false a text after e = touch_follows a text after e

follows : (a : Token) (xs : List Spaced) (after : List ℕ) → is_spaced a xs ≡ true → Follows a (spaced_text xs ++ 10 ∷ after)
follows a [] after e = feed_ends a
follows a (x ∷ xs) after e =
    let two = and_both (x.0 || may_touch a x.1) (is_spaced x.1 xs) e in
    subst (Follows a)
    (ap (λ r. space x.0 ++ r) (sym (append_assoc (spelled x.1) (spaced_text xs) (10 ∷ after))) ∙ sym (append_assoc (space x.0) (spelled x.1 ++ spaced_text xs) (10 ∷ after)))
    (gap_follows x.0 a (spelled x.1) (spaced_text xs ++ 10 ∷ after) two.0)

-- ---- the tokens after the first

begins_solid : (x : Token) (w : Spelt x) (after : List ℕ) → begins is_blank (spelled x ++ after) ≡ false
begins_solid x w after = ap (λ xs. begins is_blank (xs ++ after)) w.text ∙ w.solid

abbrev with_more : Logical → List Token → Logical
with_more l ts = record { line = l.line; column = l.column; tokens = l.tokens ++ ts }

record Gapped (h : Bool) (before : List (List ℕ)) (os : List ℕ) (begun : Option Logical) (ls : List Logical) (n : ℕ) (text after : List ℕ) : Type 0 where
  last : List (List ℕ)
  reads : reading h before (text ++ after) ≡ reading h last after
  state : State last os begun ls n

gap_read : (h g : Bool) (before : List (List ℕ)) (os : List ℕ) (begun : Option Logical) (ls : List Logical) (n : ℕ) (after : List ℕ) → begins is_blank after ≡ false → State before os begun ls n → Gapped h before os begun ls n (space g) after
gap_read h true before os begun ls n after e s = record { last = (32 ∷ []) ∷ before; reads = blank_read h before 0 after e; state = blank_state 0 before os begun ls n s }
gap_read h false before os begun ls n after e s = record { last = before; reads = refl; state = s }

laid_read : (h : Bool) (a : Token) (xs : List Spaced) (before : List (List ℕ)) (os : List ℕ) (l : Logical) (ls : List Logical) (n : ℕ) (after : List ℕ)
    → is_spaced a xs ≡ true → are_sound xs ≡ true → is_balanced os (map (λ (x : Spaced). x.1) xs) ≡ true → State before os (Some l) ls n
    → Gapped h before [] (Some (with_more l (map (λ (x : Spaced). x.1) xs))) ls n (spaced_text xs) (10 ∷ after)
laid_read h a [] before [] l ls n after st so b s = record { last = before; reads = refl; state = subst (λ ts. State before [] (Some (record { line = l.line; column = l.column; tokens = ts })) ls n) (sym (append-nil l.tokens)) s }
laid_read h a [] before (o ∷ os) l ls n after st so b s = absurd (cc)
laid_read h a (x ∷ xs) before os l ls n after st so b s =
    let two = and_both (x.0 || may_touch a x.1) (is_spaced x.1 xs) st in
    let good = and_both (is_sound x.1) (are_sound xs) so in
    let fits = and_both (fits_text os (spelled x.1)) (is_balanced (open_text os (spelled x.1)) (map (λ (x : Spaced). x.1) xs)) b in
    let w = spelt x.1 good.0 in
    let rest = spaced_text xs ++ 10 ∷ after in
    let g = gap_read h x.0 before os (Some l) ls n (spelled x.1 ++ rest) (begins_solid x.1 w rest) s in
    let read = token_read h x.1 w g.last os rest g.state.opened fits.0 (follows x.1 xs after two.1) in
    let now = token_state x.1 w g.last os (Some l) ls n g.state in
    let r = laid_read h x.1 xs ((w.c ∷ w.cs) ∷ g.last) (open_text os (spelled x.1)) (with_more l (x.1 ∷ [])) ls n after two.1 good.1 fits.1 now in
    record {
      last = r.last;
      reads = ap (reading h before) (append_assoc (space x.0) (spelled x.1 ++ spaced_text xs) (10 ∷ after) ∙ ap (λ z. space x.0 ++ z) (append_assoc (spelled x.1) (spaced_text xs) (10 ∷ after))) ∙ g.reads ∙ read ∙ r.reads;
      state = subst (λ ts. State r.last [] (Some (record { line = l.line; column = l.column; tokens = ts })) ls n) (append_assoc l.tokens (x.1 ∷ []) (map (λ (x : Spaced). x.1) xs)) r.state;
    }

-- ---- a row

record Indented (h : Bool) (before : List (List ℕ)) (ls : List Logical) (n column : ℕ) (after : List ℕ) : Type 0 where
  last : List (List ℕ)
  reads : reading h before (replicate column 32 ++ after) ≡ reading h last after
  state : State last [] None ls n
  column_is : column_after last ≡ column

all_blank : (k : ℕ) → list_all is_blank (replicate k 32) ≡ true
all_blank zero = refl
all_blank (suc k) = all_blank k

indent_read : (h : Bool) (before : List (List ℕ)) (ls : List Logical) (n column : ℕ) (after : List ℕ) → begins is_blank after ≡ false → Begins before ls n → Indented h before ls n column after
indent_read h before ls n zero after e b = record { last = before; reads = refl; state = b.at; column_is = b.column_is }
indent_read h before ls n (suc k) after e b = record {
  last = replicate (suc k) 32 ∷ before;
  reads = blank_read h before k after e;
  state = blank_state k before [] None ls n b.at;
  column_is = rw (all_blank k) (length-replicate (suc k) 32);
}

pub record RowRead (h : Bool) (before : List (List ℕ)) (ls : List Logical) (n : ℕ) (text after : List ℕ) (l : Logical) : Type 0 where
  pub last : List (List ℕ)
  pub reads : reading h before (text ++ after) ≡ reading h last after
  pub begins : Begins last (ls ++ l ∷ []) (n + 1)

pub row_read : (h : Bool) (r : Row) (before : List (List ℕ)) (ls : List Logical) (n : ℕ) (after : List ℕ) → is_row r ≡ true → Begins before ls n → RowRead h before ls n (row_text r) after (logical n r)
row_read h r before ls n after e b =
    let two = and_both (list_all is_sound (row_tokens r)) (is_spaced r.first r.others && is_balanced [] (row_tokens r)) e in
    let good = and_both (is_sound r.first) (are_sound r.others) two.0 in
    let three = and_both (is_spaced r.first r.others) (is_balanced [] (row_tokens r)) two.1 in
    let fits = and_both (fits_text [] (spelled r.first)) (is_balanced (open_text [] (spelled r.first)) (map (λ (x : Spaced). x.1) r.others)) three.1 in
    let w = spelt r.first good.0 in
    let rest = spaced_text r.others ++ 10 ∷ after in
    let i = indent_read h before ls n r.column (spelled r.first ++ rest) (begins_solid r.first w rest) b in
    let read = token_read h r.first w i.last [] rest i.state.opened fits.0 (follows r.first r.others after three.0) in
    let now = token_state r.first w i.last [] None ls n i.state in
    let begun : State ((w.c ∷ w.cs) ∷ i.last) (open_text [] (spelled r.first)) (Some (record { line = n; column = r.column; tokens = r.first ∷ [] })) ls n =
    subst (λ k. State ((w.c ∷ w.cs) ∷ i.last) (open_text [] (spelled r.first)) (Some (record { line = n; column = k; tokens = r.first ∷ [] })) ls n) i.column_is now in
    let m = laid_read h r.first r.others ((w.c ∷ w.cs) ∷ i.last) (open_text [] (spelled r.first)) (record { line = n; column = r.column; tokens = r.first ∷ [] }) ls n after three.0 good.1 fits.1 begun in
    let regroup : row_text r ++ after ≡ replicate r.column 32 ++ (spelled r.first ++ rest) =
    append_assoc (replicate r.column 32) (spelled r.first ++ (spaced_text r.others ++ 10 ∷ [])) after
    ∙ ap (λ z. replicate r.column 32 ++ z) (append_assoc (spelled r.first) (spaced_text r.others ++ 10 ∷ []) after ∙ ap (λ z. spelled r.first ++ z) (append_assoc (spaced_text r.others) (10 ∷ []) after)) in
    record {
      last = (10 ∷ []) ∷ m.last;
      reads = ap (reading h before) regroup ∙ i.reads ∙ read ∙ m.reads ∙ feed_read h m.last after;
      begins = feed_state m.last (logical n r) ls n m.state;
    }

-- ---- blank lines

blank_feed : (before : List (List ℕ)) (ls : List Logical) (n : ℕ) → Begins before ls n → Begins ((10 ∷ []) ∷ before) ls (n + 1)
unfolding line_begun lines_ended line_after open_after ends_line
blank_feed before ls n b =
    let none = nothing_open (open_after before) b.at.opened in
    record {
      at = record {
        opened = b.at.opened;
        begun_is = rw none refl;
        ended = rw (none, b.at.begun_is) (append-nil (lines_ended before) ∙ b.at.ended);
        line_is = ap (λ k. k + 1) b.at.line_is;
      };
      column_is = refl;
    }

record Blanked (h : Bool) (before : List (List ℕ)) (ls : List Logical) (n k : ℕ) (after : List ℕ) : Type 0 where
  last : List (List ℕ)
  reads : reading h before (replicate k 10 ++ after) ≡ reading h last after
  begins : Begins last ls (n + k)

blanks_read : (h : Bool) (before : List (List ℕ)) (ls : List Logical) (n k : ℕ) (after : List ℕ) → Begins before ls n → Blanked h before ls n k after
blanks_read h before ls n zero after b = let same : n ≡ n + 0 = omega arith in record { last = before; reads = refl; begins = subst (Begins before ls) same b }
blanks_read h before ls n (suc k) after b =
    let r = blanks_read h ((10 ∷ []) ∷ before) ls (n + 1) k after (blank_feed before ls n b) in
    let same : n + 1 + k ≡ n + suc k = omega arith in
    record { last = r.last; reads = feed_read h before (replicate k 10 ++ after) ∙ r.reads; begins = subst (Begins r.last ls) same r.begins }

-- ---- rows

pub record RowsRead (h : Bool) (before : List (List ℕ)) (ls : List Logical) (n : ℕ) (text : List ℕ) (rs : List (ℕ × Row)) : Type 0 where
  pub last : List (List ℕ)
  pub reads : reading h before text ≡ reading h last []
  pub ended : lines_ended last ≡ ls ++ logicals n rs
  pub closed : openings last ≡ []

pub rows_read : (h : Bool) (rs : List (ℕ × Row)) (before : List (List ℕ)) (ls : List Logical) (n : ℕ) → are_rows rs ≡ true → Begins before ls n → RowsRead h before ls n (rows_text rs) rs
rows_read h [] before ls n e b = record { last = before; reads = refl; ended = b.at.ended ∙ sym (append-nil ls); closed = b.at.opened }
rows_read h (r ∷ rs) before ls n e b =
    let two = and_both (is_row r.1) (are_rows rs) e in
    let blank = blanks_read h before ls n r.0 (row_text r.1 ++ rows_text rs) b in
    let one = row_read h r.1 blank.last ls (n + r.0) (rows_text rs) two.0 blank.begins in
    let more = rows_read h rs one.last (ls ++ logical (n + r.0) r.1 ∷ []) (n + r.0 + 1) two.1 one.begins in
    record { last = more.last; reads = blank.reads ∙ one.reads ∙ more.reads; ended = more.ended ∙ append_assoc ls (logical (n + r.0) r.1 ∷ []) (logicals (n + r.0 + 1) rs); closed = more.closed }

first_begins : Begins [] [] 1
unfolding line_begun lines_ended line_after open_after
first_begins = record { at = record { opened = refl; begun_is = refl; ended = refl; line_is = refl }; column_is = refl }

end_is : (h : Bool) (last : List (List ℕ)) (ls : List Logical) → lines_ended last ≡ ls → openings last ≡ [] → reading h last [] ≡ record { lines = ls; fault = None }
end_is h last ls e c = rw (e, nothing_open (open_after last) c) refl

pub pieces_read : (h : Bool) (rs : List (ℕ × Row)) → are_rows rs ≡ true → reading h [] (rows_text rs) ≡ record { lines = logicals 1 rs; fault = None }
pieces_read h rs e = let r = rows_read h rs [] [] 1 e first_begins in r.reads ∙ end_is h r.last (logicals 1 rs) r.ended r.closed

-- ---- the text as it is read is the text

abbrev no_return : List ℕ → Bool
no_return xs = list_all (λ d. not (d == 13)) xs

same_feeds : (xs : List ℕ) → no_return xs ≡ true → with_line_feeds xs ≡ xs
same_feeds [] e = refl
same_feeds (x ∷ xs) e = let two = and_both (not (x == 13)) (no_return xs) e in rw (not_true _ two.0) (ap (λ ys. x ∷ ys) (same_feeds xs two.1))

inline_no_return : (xs : List ℕ) → list_all is_inline xs ≡ true → no_return xs ≡ true
inline_no_return [] e = refl
inline_no_return (x ∷ xs) e = let two = and_both (is_inline x) (list_all is_inline xs) e in let one = or_both (x == 10) (x == 13) (not_true _ two.0) in rw (one.1, inline_no_return xs two.1) refl

both_pass : (xs ys : List ℕ) → no_return xs ≡ true → no_return ys ≡ true → no_return (xs ++ ys) ≡ true
both_pass xs ys e f = list_all-append (λ d. not (d == 13)) xs ys ∙ rw (e, f) refl

token_no_return : (x : Token) → is_sound x ≡ true → no_return (spelled x) ≡ true
token_no_return x e = let w = spelt x e in ap no_return w.text ∙ inline_no_return (w.c ∷ w.cs) w.inline

gap_no_return : (g : Bool) → no_return (space g) ≡ true
gap_no_return true = refl
gap_no_return false = refl

laid_no_return : (xs : List Spaced) → are_sound xs ≡ true → no_return (spaced_text xs) ≡ true
laid_no_return [] e = refl
laid_no_return (x ∷ xs) e =
    let good = and_both (is_sound x.1) (are_sound xs) e in
    both_pass (space x.0) (spelled x.1 ++ spaced_text xs) (gap_no_return x.0) (both_pass (spelled x.1) (spaced_text xs) (token_no_return x.1 good.0) (laid_no_return xs good.1))

spaces_no_return : (k : ℕ) → no_return (replicate k 32) ≡ true
spaces_no_return zero = refl
spaces_no_return (suc k) = spaces_no_return k

row_no_return : (r : Row) → is_row r ≡ true → no_return (row_text r) ≡ true
row_no_return r e =
    let two = and_both (list_all is_sound (row_tokens r)) (is_spaced r.first r.others && is_balanced [] (row_tokens r)) e in
    let good = and_both (is_sound r.first) (are_sound r.others) two.0 in
    both_pass (replicate r.column 32) (spelled r.first ++ (spaced_text r.others ++ 10 ∷ [])) (spaces_no_return r.column)
    (both_pass (spelled r.first) (spaced_text r.others ++ 10 ∷ []) (token_no_return r.first good.0) (both_pass (spaced_text r.others) (10 ∷ []) (laid_no_return r.others good.1) refl))

feeds_no_return : (k : ℕ) → no_return (replicate k 10) ≡ true
feeds_no_return zero = refl
feeds_no_return (suc k) = feeds_no_return k

rows_no_return : (rs : List (ℕ × Row)) → are_rows rs ≡ true → no_return (rows_text rs) ≡ true
rows_no_return [] e = refl
rows_no_return (r ∷ rs) e = let two = and_both (is_row r.1) (are_rows rs) e in both_pass (replicate r.0 10) (row_text r.1 ++ rows_text rs) (feeds_no_return r.0) (both_pass (row_text r.1) (rows_text rs) (row_no_return r.1 two.0) (rows_no_return rs two.1))

-- what ends with a line feed lacks none, whatever is before it
missing_more : (x : ℕ) (xs : List ℕ) (y : ℕ) (ys : List ℕ) → missing_end ((x ∷ xs) ++ (y ∷ ys)) ≡ missing_end (y ∷ ys)
missing_more x [] y ys = refl
missing_more x (z ∷ xs) y ys = missing_more z xs y ys

missing_behind : (xs : List ℕ) (y : ℕ) (ys : List ℕ) → missing_end (xs ++ (y ∷ ys)) ≡ missing_end (y ∷ ys)
missing_behind [] y ys = refl
missing_behind (x ∷ xs) y ys = missing_more x xs y ys

row_ends : (r : Row) → missing_end (row_text r) ≡ []
row_ends r =
    ap missing_end (ap (λ z. replicate r.column 32 ++ z) (sym (append_assoc (spelled r.first) (spaced_text r.others) (10 ∷ []))) ∙ sym (append_assoc (replicate r.column 32) (spelled r.first ++ spaced_text r.others) (10 ∷ [])))
    ∙ missing_behind (replicate r.column 32 ++ (spelled r.first ++ spaced_text r.others)) 10 []

behind_by : (xs ys : List ℕ) → missing_end xs ≡ [] → (ys ≡ []) ⊎ (missing_end ys ≡ []) → missing_end (xs ++ ys) ≡ []
behind_by xs ys e (inl f) = ap (λ z. missing_end (xs ++ z)) f ∙ ap missing_end (append-nil xs) ∙ e
behind_by xs [] e (inr f) = absurd (cc)
behind_by xs (y ∷ ys) e (inr f) = missing_behind xs y ys ∙ f

feeds_end : (k : ℕ) (xs : List ℕ) → missing_end xs ≡ [] → missing_end (replicate k 10 ++ xs) ≡ []
feeds_end k [] e = absurd (cc)
feeds_end k (x ∷ xs) e = missing_behind (replicate k 10) x xs ∙ e

rows_end : (rs : List (ℕ × Row)) → (rows_text rs ≡ []) ⊎ (missing_end (rows_text rs) ≡ [])
rows_end [] = inl refl
rows_end (r ∷ rs) = inr (feeds_end r.0 (row_text r.1 ++ rows_text rs) (behind_by (row_text r.1) (rows_text rs) (row_ends r.1) (rows_end rs)))

no_mark_by : (column : ℕ) (text : List ℕ) → begins (λ c. 239 == c) text ≡ false → has_order_mark (replicate column 32 ++ text) ≡ false
no_mark_by zero [] e = refl
no_mark_by zero (c ∷ cs) e = rw e refl
no_mark_by (suc k) text e = refl

row_no_mark : (r : Row) (after : List ℕ) → is_row r ≡ true → has_order_mark (row_text r ++ after) ≡ false
row_no_mark r after e =
    let two = and_both (list_all is_sound (row_tokens r)) (is_spaced r.first r.others && is_balanced [] (row_tokens r)) e in
    let good = and_both (is_sound r.first) (are_sound r.others) two.0 in
    let w = spelt r.first good.0 in
    ap has_order_mark (append_assoc (replicate r.column 32) (spelled r.first ++ (spaced_text r.others ++ 10 ∷ [])) after)
    ∙ no_mark_by r.column ((spelled r.first ++ (spaced_text r.others ++ 10 ∷ [])) ++ after) (ap (λ z. begins (λ c. 239 == c) ((z ++ (spaced_text r.others ++ 10 ∷ [])) ++ after)) w.text ∙ w.first)

feeds_no_mark : (k : ℕ) (text : List ℕ) → has_order_mark text ≡ false → has_order_mark (replicate k 10 ++ text) ≡ false
feeds_no_mark zero text e = e
feeds_no_mark (suc k) text e = refl

lines_same : (r : ℕ × Row) (rs : List (ℕ × Row)) → are_rows (r ∷ rs) ≡ true → lines_of (rows_text (r ∷ rs)) ≡ rows_text (r ∷ rs)
unfolding lines_of
lines_same r rs e =
    let text = rows_text (r ∷ rs) in
    let two = and_both (is_row r.1) (are_rows rs) e in
    let mark = feeds_no_mark r.0 (row_text r.1 ++ rows_text rs) (row_no_mark r.1 (rows_text rs) two.0) in
    let ended = feeds_end r.0 (row_text r.1 ++ rows_text rs) (behind_by (row_text r.1) (rows_text rs) (row_ends r.1) (rows_end rs)) in
    rw mark (rw (ended, append-nil text) (same_feeds text (rows_no_return (r ∷ rs) e)))

-- nothing is read from an empty text
feed_alone : reading false [] (10 ∷ []) ≡ record { lines = []; fault = None }
unfolding line_begun lines_ended line_after open_after ends_line
feed_alone = feed_read false [] []

empty_read : reading false [] (lines_of []) ≡ record { lines = []; fault = None }
unfolding lines_of
empty_read = feed_alone

pub rows_read_back : RowsReadBack
unfolding tokens_of pieces_of
rows_read_back [] e = empty_read
rows_read_back (r ∷ rs) e = ap (reading (has_order_mark (rows_text (r ∷ rs))) []) (lines_same r rs e) ∙ pieces_read (has_order_mark (rows_text (r ∷ rs))) (r ∷ rs) e
