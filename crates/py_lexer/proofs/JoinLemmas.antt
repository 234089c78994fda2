-- Taking in a piece is what the definition says of it.
use Rattle.std.proofs.Common.{◌≡◌, ◌∙◌, sym, ap, refl, subst, ℕ, ◌+◌, ◌<◌, Bool, true, false, cond, ◌&&◌, ◌||◌, not, List, [], ◌∷◌, ◌++◌, length, drop, Option, Some, None, Ok, Err, append-nil, pos, arith}
use Rattle.std.specs.Prelude.{◌==◌, nat_lt, is_none, option_to_list}
use Rattle.std.specs.List.{list_all, list_any}
use Rattle.std.proofs.lemmas.Bool.Decides.{nat_tests}
use Rattle.pyn_base.specs.declared.construct.Construct.{Construct}
use Rattle.pyn_base.specs.declared.construct.Construct.TheVariants as fault
use Rattle.py_language.specs.declared.token.Mark.{Mark}
use Rattle.py_language.specs.declared.token.Token.{Token}
use Rattle.py_language.specs.declared.token.Token.TheVariants as t
use Rattle.py_language.specs.declared.token.Logical.{Logical}
use Rattle.py_language.specs.TokensCharacters.{is_letter, is_digit, is_blank, is_quote, begins, decoded, not_utf8}
use Rattle.py_language.specs.TokensNames.{name_token}
use Rattle.py_language.specs.TokensNumbers.{is_nil, integer_value}
use Rattle.py_language.specs.TokensStrings.{Content, string_content}
use Rattle.py_language.specs.TokensMarks.{mark_of, is_opening, is_closing, closes}
use Rattle.py_language.specs.TokensPieces.{is_comment, are_blanks}
use Rattle.py_language.specs.TokensEncoding.{declared_encoding, is_accepted}
use Rattle.py_language.specs.TokensLines.{Brackets, token_of, string_token, mark_token, line_feeds, line_after, bracket_by, open_after, is_line_end_in, ends_line, column_after, with_tokens, line_begun, lines_ended}
use Rattle.py_language.specs.TokensFaults.{unless, name_fault, number_fault, blank_fault, first_refused, declares, is_silent, is_no_token, may_declare, comment_fault, closing_fault, mark_fault, stray_fault, error_of, string_fault, here, from_line, fault_by}
use Rattle.py_lexer.specs.declared.piece.Piece.TheVariants as p
use Rattle.py_lexer.specs.declared.reader.Reader.{Reader}
use Rattle.py_lexer.specs.declared.reader.Step.{Step}
use Rattle.py_lexer.specs.declared.reader.Step.TheVariants.{On, End}
use Rattle.py_lexer.specs.Found.{found_by, or_fault, name_found, number_found, string_found, content_found, blanks_found, comment_found, bracket_found, mark_found, Other}
use Rattle.py_lexer.specs.Steps.{stopped, with_token, with_brackets, closing, commented, line_end, step}
use Rattle.py_lexer.proofs.ClassLemmas.{exclusive}
use Rattle.py_lexer.proofs.LongestLemmas.{known_no_mark}

-- what the pieces before make of the reader
abbrev pub reader_of : List (List ℕ) → Reader
reader_of before =
    record { lines = lines_ended before; begun = line_begun before; brackets = open_after before; line = line_after before; column = column_after before; undeclared = list_all is_silent before }

-- the reader after n more line ends
abbrev pub past : Reader → ℕ → Reader
past r n = record r { line = r.line + n }

-- what a step is to be
abbrev pub Joins : Bool → List (List ℕ) → ℕ → List ℕ → List ℕ → Step → Type 0
Joins h before c cs after (On r) = (fault_by h before c cs after ≡ None) × (past r (line_feeds (c ∷ cs)) ≡ reader_of ((c ∷ cs) ∷ before))
Joins h before c cs after (End all) = (f : ℕ × Construct) × (fault_by h before c cs after ≡ Some f) × (all ≡ record { lines = lines_ended before; fault = Some f })

-- what the classes of a first character say of a piece
pub record Shaped (c : ℕ) (cs : List ℕ) : Type 0 where
  pub byte : c < 256
  pub blanks : is_blank c ≡ true → are_blanks (c ∷ cs) ≡ true
  pub comment : c ≡ 35 → is_comment (c ∷ cs) ≡ true
  pub feed : c ≡ 10 → cs ≡ []

-- ---- the reader, part by part

reader_same : (a b : List Logical) (c d : Option Logical) (e f : Brackets) (g h i j : ℕ) (k l : Bool) → a ≡ b → c ≡ d → e ≡ f → g ≡ h → i ≡ j → k ≡ l
    → ◌≡◌ {A = Reader} (record { lines = a; begun = c; brackets = e; line = g; column = i; undeclared = k }) (record { lines = b; begun = d; brackets = f; line = h; column = j; undeclared = l })
reader_same a b c d e f g h i j k l p1 p2 p3 p4 p5 p6 = cc

not_end : (c : ℕ) (cs : List ℕ) (before : List (List ℕ)) → (c == 10) ≡ false → ends_line (c ∷ cs) before ≡ false
unfolding ends_line
not_end c cs before e = end_by (open_after before)
  where
    end_by : (os : Brackets) → is_line_end_in os (c ∷ cs) ≡ false
    end_by [] = rw e refl
    end_by (o ∷ os) = refl

-- a piece that is no line end
goes_on : (c : ℕ) (cs : List ℕ) (before : List (List ℕ)) (begun : Option Logical) (os : Brackets) (column : ℕ) (undeclared : Bool) → (c == 10) ≡ false → with_tokens (token_of (c ∷ cs)) (line_after before) (column_after before) (line_begun before) ≡ begun
    → bracket_by c (line_after before) (open_after before) ≡ os → column_after ((c ∷ cs) ∷ before) ≡ column → list_all is_silent ((c ∷ cs) ∷ before) ≡ undeclared
    → ◌≡◌ {A = Reader} (record { lines = lines_ended before; begun = begun; brackets = os; line = line_after before + line_feeds (c ∷ cs); column = column; undeclared = undeclared }) (reader_of ((c ∷ cs) ∷ before))
unfolding lines_ended line_begun open_after line_after
goes_on c cs before begun os column undeclared e b o n u =
    let same = not_end c cs before e in
    reader_same _ _ _ _ _ _ _ _ _ _ _ _ (sym (ap (λ v. lines_ended before ++ cond v (option_to_list (line_begun before)) []) same ∙ append-nil (lines_ended before)))
    (sym (ap (λ v. cond v None (with_tokens (token_of (c ∷ cs)) (line_after before) (column_after before) (line_begun before))) same ∙ b)) (sym o) refl (sym n) (sym u)

-- a token joins
token_joins : (c : ℕ) (cs : List ℕ) (before : List (List ℕ)) (x : Token) (os : Brackets) → (c == 10) ≡ false → is_blank c ≡ false → token_of (c ∷ cs) ≡ x ∷ [] → bracket_by c (line_after before) (open_after before) ≡ os
    → past (with_token (with_brackets (reader_of before) os) x) (line_feeds (c ∷ cs)) ≡ reader_of ((c ∷ cs) ∷ before)
unfolding with_token
token_joins c cs before x os f b e o =
    goes_on c cs before _ os 0 false f (ap (λ ys. with_tokens ys (line_after before) (column_after before) (line_begun before)) e) o (rw b refl) (ap (λ ys. (is_no_token ys && not (declares (c ∷ cs))) && list_all is_silent before) e)

plain_bracket : (c line : ℕ) (os : Brackets) → is_opening c ≡ false → is_closing c ≡ false → bracket_by c line os ≡ os
plain_bracket c line os a b = rw (a, b) refl

other_token : (c : ℕ) (cs : List ℕ) (o : Option Mark) → is_letter c ≡ false → is_digit c ≡ false → is_quote c ≡ false → mark_of (c ∷ cs) ≡ o → token_of (c ∷ cs) ≡ mark_token o
other_token c cs o l d q e = rw (l, d, q) (ap mark_token e)

module _ (h : Bool) (before : List (List ℕ)) (c : ℕ) (cs after : List ℕ) where
  -- a fault on the line of the piece's first character
  stops : (o : Option Construct) (f : Construct) → fault_by h before c cs after ≡ here (line_after before) o → o ≡ Some f → Joins h before c cs after (stopped (reader_of before) 0 f)
  stops o f row e = ((line_after before + 0, f), row ∙ (ap (here (line_after before)) e ∙ ap (λ n. let g : ℕ × Construct = (n, f) in Some g) (let z : line_after before ≡ line_after before + 0 = omega arith in z)), refl)

  -- a token, unless it has a fault
  word_joins : (o : Option Construct) (x : Token) → fault_by h before c cs after ≡ here (line_after before) o → (c == 10) ≡ false → is_blank c ≡ false → token_of (c ∷ cs) ≡ x ∷ [] → is_opening c ≡ false → is_closing c ≡ false
      → Joins h before c cs after (step (reader_of before) (or_fault o (p.Token x)))
  unfolding step
  word_joins None x e f b tok op cl = (e, token_joins c cs before x (open_after before) f b tok (plain_bracket c (line_after before) (open_after before) op cl))
  word_joins (Some g) x e f b tok op cl = stops (Some g) g e refl

module _ (h : Bool) (before : List (List ℕ)) (c : ℕ) (cs after : List ℕ) (lt : c < 256) where
  -- ---- names and numbers

  name_joins : is_quote c ≡ false → is_letter c ≡ true → Joins h before c cs after (step (reader_of before) (name_found (c ∷ cs) after))
  unfolding name_found fault_by
  name_joins q l =
      word_joins h before c cs after (name_fault (c ∷ cs) after) (name_token (c ∷ cs)) (rw (q, l) refl) (exclusive is_letter (λ d. d == 10) refl c lt l) (exclusive is_letter is_blank refl c lt l) (rw l refl)
      (exclusive is_letter is_opening refl c lt l) (exclusive is_letter is_closing refl c lt l)

  number_joins : is_quote c ≡ false → is_letter c ≡ false → is_digit c ≡ true → Joins h before c cs after (step (reader_of before) (number_found (c ∷ cs) after))
  unfolding number_found fault_by
  number_joins q l d =
      word_joins h before c cs after (number_fault (c ∷ cs) after) (t.Int (pos (integer_value (c ∷ cs)))) (rw (q, l, d) refl) (exclusive is_digit (λ d. d == 10) refl c lt d) (exclusive is_digit is_blank refl c lt d) (rw (l, d) refl)
      (exclusive is_digit is_opening refl c lt d) (exclusive is_digit is_closing refl c lt d)

  -- ---- strings

  string_by : (nil : Bool) (r : Content) → is_nil cs ≡ nil → string_content c cs ≡ r → is_quote c ≡ true → fault_by h before c cs after ≡ from_line (line_after before) (cond nil (Some (0, fault.String)) (error_of r))
      → Joins h before c cs after (step (reader_of before) (cond nil (p.Fault 0 fault.String) (content_found r)))
  unfolding step
  string_by true r en er q row = ((line_after before + 0, fault.String), row, refl)
  string_by false (Ok xs) en er q row =
      let l : is_letter c ≡ false = exclusive is_quote is_letter refl c lt q in
      let d : is_digit c ≡ false = exclusive is_quote is_digit refl c lt q in (
        row,
        token_joins c cs before (t.Str xs) (open_after before) (exclusive is_quote (λ d. d == 10) refl c lt q) (exclusive is_quote is_blank refl c lt q) (rw (l, d, q) (ap string_token er))
            (plain_bracket c (line_after before) (open_after before) (exclusive is_quote is_opening refl c lt q) (exclusive is_quote is_closing refl c lt q)),
      )
  string_by false (Err e) en er q row = ((line_after before + e.0, e.1), row, refl)

  string_joins : is_quote c ≡ true → Joins h before c cs after (step (reader_of before) (string_found c cs))
  unfolding string_found fault_by string_fault
  string_joins q = string_by (is_nil cs) (string_content c cs) refl refl q (rw q refl)

  -- ---- blanks

  silent_here : token_of (c ∷ cs) ≡ [] → is_comment (c ∷ cs) ≡ false → list_all is_silent ((c ∷ cs) ∷ before) ≡ list_all is_silent before
  silent_here e f = ap (λ ys. (is_no_token ys && not (declares (c ∷ cs))) && list_all is_silent before) e ∙ ap (λ v. (true && not (v && not (is_nil (declared_encoding (c ∷ cs))))) && list_all is_silent before) f

  tab_by : (a n b : Bool) → fault_by h before c cs after ≡ here (line_after before) (unless (not (a && n) || b) fault.Tab) → past (record (reader_of before) { column = length (c ∷ cs) }) (line_feeds (c ∷ cs)) ≡ reader_of ((c ∷ cs) ∷ before)
      → Joins h before c cs after (cond ((a && not b) && n) (stopped (reader_of before) 0 fault.Tab) (On (record (reader_of before) { column = length (c ∷ cs) })))
  tab_by true true true row same = (row, same)
  tab_by true true false row same = stops h before c cs after (Some fault.Tab) fault.Tab row refl
  tab_by true false true row same = (row, same)
  tab_by true false false row same = (row, same)
  tab_by false n true row same = (row, same)
  tab_by false n false row same = (row, same)

  blank_joins : is_quote c ≡ false → is_letter c ≡ false → is_digit c ≡ false → is_blank c ≡ true → are_blanks (c ∷ cs) ≡ true → Joins h before c cs after (step (reader_of before) (blanks_found (c ∷ cs) after))
  unfolding step fault_by blank_fault
  blank_joins q l d k all =
      let tok : token_of (c ∷ cs) ≡ [] = other_token c cs None l d q (known_no_mark c cs lt (rw (l, d, k) refl)) in
      let hash : (c == 35) ≡ false = exclusive is_blank (λ d. d == 35) refl c lt k in
      tab_by (list_any (λ d. d == 9) (c ∷ cs)) (is_none (line_begun before)) (begins (λ d. d == 10 || d == 35) after) (rw (q, l, d, k) refl)
      (goes_on c cs before (line_begun before) (open_after before) (length (c ∷ cs)) (list_all is_silent before) (exclusive is_blank (λ d. d == 10) refl c lt k) (ap (λ ys. with_tokens ys (line_after before) (column_after before) (line_begun before)) tok)
      (plain_bracket c (line_after before) (open_after before) (exclusive is_blank is_opening refl c lt k) (exclusive is_blank is_closing refl c lt k)) (ap (λ v. cond v (length (c ∷ cs)) 0) all) (silent_here tok (rw hash refl)))

module _ (h : Bool) (before : List (List ℕ)) where
  -- ---- comments

  nils : (xs : List ℕ) → not (length xs == 0) ≡ not (is_nil xs)
  nils [] = refl
  nils (x ∷ xs) = let some : (length (x ∷ xs) == 0) ≡ false = grind (arith, nat_tests) in ap not some

  declares_is : (text : List ℕ) → is_comment text ≡ true → not (length (declared_encoding text) == 0) ≡ declares text
  declares_is text e = nils (declared_encoding text) ∙ sym (ap (λ v. v && not (is_nil (declared_encoding text))) e)

  no_hash_mark : (cs : List ℕ) → token_of (35 ∷ cs) ≡ []
  no_hash_mark cs = other_token 35 cs None refl refl refl (known_no_mark 35 cs (omega arith) refl)

  comment_by : (cs after : List ℕ) (w : Bool) (o : Option Construct) → fault_by h before 35 cs after ≡ here (line_after before) (cond w (Some fault.Encoding) o)
      → Joins h before 35 cs after (cond w (stopped (reader_of before) 0 fault.Encoding) (commented (reader_of before) (declares (35 ∷ cs)) o))
  comment_by cs after true o row = stops h before 35 cs after (Some fault.Encoding) fault.Encoding row refl
  comment_by cs after false (Some f) row = stops h before 35 cs after (Some f) f row refl
  comment_by cs after false None row = (
    row,
    goes_on 35 cs before (line_begun before) (open_after before) 0 (not (declares (35 ∷ cs)) && list_all is_silent before) refl (ap (λ ys. with_tokens ys (line_after before) (column_after before) (line_begun before)) (no_hash_mark cs)) refl refl
        (ap (λ ys. (is_no_token ys && not (declares (35 ∷ cs))) && list_all is_silent before) (no_hash_mark cs)),
  )

  comment_joins : (cs after : List ℕ) → is_comment (35 ∷ cs) ≡ true → Joins h before 35 cs after (step (reader_of before) (comment_found h (35 ∷ cs)))
  unfolding step fault_by comment_fault
  comment_joins cs after all =
      subst (λ v. Joins h before 35 cs after (step (reader_of before) (p.Comment v (is_accepted h (declared_encoding (35 ∷ cs))) (first_refused (decoded (35 ∷ cs)))))) (sym (declares_is (35 ∷ cs) all))
      (comment_by cs after (may_declare before && (declares (35 ∷ cs) && not (is_accepted h (declared_encoding (35 ∷ cs))))) (first_refused (decoded (35 ∷ cs))) refl)

  -- ---- line ends

  line_end_is : (os : Brackets) → open_after before ≡ os → past (line_end (reader_of before) os) 1 ≡ reader_of ((10 ∷ []) ∷ before)
  unfolding lines_ended line_begun ends_line open_after line_after
  line_end_is os e = end_by os (ap (λ bs. is_line_end_in bs (10 ∷ [])) e)
    where
      no_feed_token : token_of (10 ∷ []) ≡ []
      no_feed_token = other_token 10 [] None refl refl refl (known_no_mark 10 [] (omega arith) refl)

      end_by : (bs : Brackets) → is_line_end_in (open_after before) (10 ∷ []) ≡ is_line_end_in bs (10 ∷ []) → past (line_end (reader_of before) bs) 1 ≡ reader_of ((10 ∷ []) ∷ before)
      end_by [] ends =
          reader_same _ _ _ _ _ _ _ _ _ _ _ _ (sym (ap (λ v. lines_ended before ++ cond v (option_to_list (line_begun before)) []) ends))
          (sym (ap (λ v. cond v None (with_tokens (token_of (10 ∷ [])) (line_after before) (column_after before) (line_begun before))) ends)) refl refl refl (sym (silent_here h before 10 [] [] (omega arith) no_feed_token refl))
      end_by (o ∷ bs) ends =
          reader_same _ _ _ _ _ _ _ _ _ _ _ _ (sym (ap (λ v. lines_ended before ++ cond v (option_to_list (line_begun before)) []) ends ∙ append-nil (lines_ended before)))
          (sym (ap (λ v. cond v None (with_tokens (token_of (10 ∷ [])) (line_after before) (column_after before) (line_begun before))) ends ∙ ap (λ ys. with_tokens ys (line_after before) (column_after before) (line_begun before)) no_feed_token)) refl refl refl
          (sym (silent_here h before 10 [] [] (omega arith) no_feed_token refl))

  line_end_joins : (cs after : List ℕ) → cs ≡ [] → Joins h before 10 cs after (step (reader_of before) p.LineEnd)
  unfolding step fault_by
  line_end_joins cs after e = subst (λ xs. Joins h before 10 xs after (On (line_end (reader_of before) (open_after before)))) (sym e) (refl, line_end_is (open_after before) refl)

  -- ---- marks and stray characters

  module _ (c : ℕ) (cs after : List ℕ) (o : Other c) where
    by_mark : (m : Mark) → mark_of (c ∷ cs) ≡ Some m → fault_by h before c cs after ≡ here (line_after before) (mark_fault before c cs after)
    unfolding fault_by
    by_mark m e = rw (o.quote, o.letter, o.digit, o.blank, o.hash, o.feed, e) refl

    by_stray : mark_of (c ∷ cs) ≡ None → fault_by h before c cs after ≡ here (line_after before) (stray_fault c after)
    unfolding fault_by
    by_stray e = rw (o.quote, o.letter, o.digit, o.blank, o.hash, o.feed, e) refl

    takes_mark : (m : Mark) (os : Brackets) → mark_of (c ∷ cs) ≡ Some m → bracket_by c (line_after before) (open_after before) ≡ os → past (with_token (with_brackets (reader_of before) os) (t.Mark m)) (line_feeds (c ∷ cs)) ≡ reader_of ((c ∷ cs) ∷ before)
    takes_mark m os e b = token_joins c cs before (t.Mark m) os o.feed o.blank (other_token c cs (Some m) o.letter o.digit o.quote e) b

    opening_by : (m : Mark) (w : Bool) → mark_of (c ∷ cs) ≡ Some m → is_opening c ≡ true → fault_by h before c cs after ≡ here (line_after before) (unless w fault.Nesting)
        → Joins h before c cs after (cond w (On (with_token (with_brackets (reader_of before) ((line_after before, c) ∷ open_after before)) (t.Mark m))) (stopped (reader_of before) 0 fault.Nesting))
    opening_by m true e op row = (row, takes_mark m ((line_after before, c) ∷ open_after before) e (ap (λ v. cond v ((line_after before, c) ∷ open_after before) (cond (is_closing c) (drop 1 (open_after before)) (open_after before))) op))
    opening_by m false e op row = stops h before c cs after (Some fault.Nesting) fault.Nesting row refl

    closing_by : (m : Mark) (os : Brackets) → mark_of (c ∷ cs) ≡ Some m → is_opening c ≡ false → is_closing c ≡ true → open_after before ≡ os → fault_by h before c cs after ≡ here (line_after before) (closing_fault c os) → Joins h before c cs after (closing (reader_of before) m c os)
    closing_by m [] e op cl eo row = stops h before c cs after (Some fault.Bracket) fault.Bracket row refl
    closing_by m (b ∷ os) e op cl eo row = match_by (closes c b.1) row
      where
        match_by : (w : Bool) → fault_by h before c cs after ≡ here (line_after before) (unless w fault.Bracket) → Joins h before c cs after (cond w (On (with_token (with_brackets (reader_of before) os) (t.Mark m))) (stopped (reader_of before) 0 fault.Bracket))
        match_by true row = (row, takes_mark m os e (rw (op, cl) (ap (drop 1) eo)))
        match_by false row = stops h before c cs after (Some fault.Bracket) fault.Bracket row refl

    bracket_joins : (m : Mark) (a b : Bool) → mark_of (c ∷ cs) ≡ Some m → is_opening c ≡ a → is_closing c ≡ b
        → fault_by h before c cs after ≡ here (line_after before) (cond a (unless (nat_lt (length (open_after before)) 50) fault.Nesting) (cond b (closing_fault c (open_after before)) None))
        → Joins h before c cs after (step (reader_of before) (cond a (p.Opening m c) (cond b (p.Closing m c) (p.Token (t.Mark m)))))
    unfolding step
    bracket_joins m true b e ea eb row = opening_by m (nat_lt (length (open_after before)) 50) e ea row
    bracket_joins m false true e ea eb row = closing_by m (open_after before) e ea eb refl row
    bracket_joins m false false e ea eb row = (row, takes_mark m (open_after before) e (plain_bracket c (line_after before) (open_after before) ea eb))

    number_or : (n : Bool) (m : Mark) → mark_of (c ∷ cs) ≡ Some m → fault_by h before c cs after ≡ here (line_after before) (cond n (Some fault.Number) (cond (is_opening c) (unless (nat_lt (length (open_after before)) 50) fault.Nesting) (cond (is_closing c) (closing_fault c (open_after before)) None)))
        → Joins h before c cs after (step (reader_of before) (cond n (p.Fault 0 fault.Number) (bracket_found c m)))
    unfolding step
    number_or true m e row = stops h before c cs after (Some fault.Number) fault.Number row refl
    number_or false m e row = bracket_joins m (is_opening c) (is_closing c) e refl refl row

    stray_joins : (f : Option Construct) (g : Construct) → f ≡ Some g → fault_by h before c cs after ≡ here (line_after before) f → Joins h before c cs after (step (reader_of before) (or_fault f p.LineEnd))
    unfolding step
    stray_joins f g e row = subst (λ x. Joins h before c cs after (step (reader_of before) (or_fault x p.LineEnd))) (sym e) (stops h before c cs after f g row e)

    stray_some : (a b : Bool) → (g : Construct) × (cond a (Some fault.Backslash) (cond b (Some fault.Encoding) (Some fault.Character)) ≡ Some g)
    stray_some true b = (fault.Backslash, refl)
    stray_some false true = (fault.Encoding, refl)
    stray_some false false = (fault.Character, refl)

    other_joins : (m : Option Mark) → mark_of (c ∷ cs) ≡ m → Joins h before c cs after (step (reader_of before) (mark_found c cs after m))
    unfolding mark_found mark_fault stray_fault
    other_joins (Some m) e = number_or (c == 46 && (is_nil cs && begins is_digit after)) m e (by_mark m e)
    other_joins None e = let some = stray_some (c == 92) (begins (λ d. d == not_utf8) (decoded (c ∷ after))) in stray_joins (stray_fault c after) some.0 some.1 (by_stray e)

  -- ---- any piece

  joins_by : (q l d b s f : Bool) (c : ℕ) (cs after : List ℕ) → is_quote c ≡ q → is_letter c ≡ l → is_digit c ≡ d → is_blank c ≡ b → (c == 35) ≡ s → (c == 10) ≡ f → Shaped c cs
      → Joins h before c cs after (step (reader_of before) (cond q (string_found c cs) (cond l (name_found (c ∷ cs) after) (cond d (number_found (c ∷ cs) after) (cond b (blanks_found (c ∷ cs) after) (cond s (comment_found h (c ∷ cs)) (cond f p.LineEnd (mark_found c cs after (mark_of (c ∷ cs))))))))))
  joins_by true l d b s f c cs after eq el ed eb es ef shape = string_joins h before c cs after shape.byte eq
  joins_by false true d b s f c cs after eq el ed eb es ef shape = name_joins h before c cs after shape.byte eq el
  joins_by false false true b s f c cs after eq el ed eb es ef shape = number_joins h before c cs after shape.byte eq el ed
  joins_by false false false true s f c cs after eq el ed eb es ef shape = blank_joins h before c cs after shape.byte eq el ed eb (shape.blanks eb)
  joins_by false false false false true f c cs after eq el ed eb es ef shape =
      let is : c ≡ 35 = grind (arith, nat_tests) in
      subst (λ x. Joins h before x cs after (step (reader_of before) (comment_found h (x ∷ cs)))) (sym is) (comment_joins cs after (ap (λ x. is_comment (x ∷ cs)) (sym is) ∙ shape.comment is))
  joins_by false false false false false true c cs after eq el ed eb es ef shape =
      let is : c ≡ 10 = grind (arith, nat_tests) in
      subst (λ x. Joins h before x cs after (step (reader_of before) p.LineEnd)) (sym is) (line_end_joins cs after (shape.feed is))
  joins_by false false false false false false c cs after eq el ed eb es ef shape = other_joins c cs after (record { quote = eq; letter = el; digit = ed; blank = eb; hash = es; feed = ef }) (mark_of (c ∷ cs)) refl

  pub joins : (c : ℕ) (cs after : List ℕ) → Shaped c cs → Joins h before c cs after (step (reader_of before) (found_by h c cs after))
  unfolding found_by
  joins c cs after shape = joins_by (is_quote c) (is_letter c) (is_digit c) (is_blank c) (c == 35) (c == 10) c cs after refl refl refl refl refl refl shape
