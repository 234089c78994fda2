-- Marks: what they spell, and where they end.
use Rattle.std.proofs.Common.{◌≡◌, ◌∙◌, sym, ap, refl, ℕ, Bool, true, false, cond, ◌&&◌, ◌||◌, not, List, [], ◌∷◌, ◌++◌, length, Some, None, is_some, bytes_eq, append_assoc}
use Rattle.std.specs.Prelude.{◌==◌, nat_lt, nat_eq, map}
use Rattle.std.specs.List.{list_all, list_any, starts_with}
use Rattle.std.proofs.lemmas.List.{length-map}
use Rattle.std.proofs.lemmas.Slice.Eq.{bytes_eq-Decides}
use Rattle.std.proofs.Math.Seq.{take-append_seam}
use Rattle.pyn_base.specs.declared.construct.Construct.TheVariants as fault
use Rattle.py_language.specs.declared.token.Token.TheVariants as t
use Rattle.py_language.specs.declared.token.Mark.{Mark}
use Rattle.py_language.specs.declared.token.Mark.TheVariants as m
use Rattle.py_language.specs.TokensCharacters.{is_letter, is_digit, is_blank, is_quote, begins}
use Rattle.py_language.specs.TokensNames.{listed}
use Rattle.py_language.specs.TokensNumbers.{is_nil}
use Rattle.py_language.specs.TokensMarks.{marks, mark_of, is_mark, is_opening, is_closing}
use Rattle.py_language.specs.TokensLines.{Brackets, mark_token, open_after}
use Rattle.py_language.specs.TokensFaults.{fault_by, mark_fault, unless, closing_fault}
use Rattle.py_spelling.specs.Spelling.{mark_text, has_longer_mark, is_dot, ends_before, fits_by, closes_first}
use Rattle.py_spelling.proofs.Longest.{other_spells}
use Rattle.py_spelling.proofs.Fronts.{Ends, EndsAt, piece_front}
use Rattle.py_spelling.proofs.WordSpelling.{and_both, or_both, not_true, is_inline, Follows, Spelt, openings}

-- ---- no row goes on

front_same : (p more : List ℕ) → starts_with nat_eq (p ++ more) p ≡ true
front_same p more = ap (bytes_eq p) (take-append_seam p more) ∙ (bytes_eq-Decides p p).1 refl

row_by : (v : Bool) (row p more : List ℕ) → (v ≡ true → p ++ more ≡ row) → starts_with nat_eq row p ≡ false → v ≡ false
row_by false row p more f e = refl
row_by true row p more f e = let wrong : false ≡ true = sym e ∙ ap (λ r. starts_with nat_eq r p) (sym (f refl)) ∙ front_same p more in absurd (cc)

rows_miss : (rows : List (List ℕ × Mark)) (p more : List ℕ) → list_any (λ (row : List ℕ × Mark). starts_with nat_eq row.0 p) rows ≡ false → listed rows (p ++ more) ≡ None
rows_miss [] p more e = refl
rows_miss (row ∷ rows) p more e =
    let two = or_both (starts_with nat_eq row.0 p) (list_any (λ (row : List ℕ × Mark). starts_with nat_eq row.0 p) rows) e in
    rw (row_by (bytes_eq (p ++ more) row.0) row.0 p more ((bytes_eq-Decides (p ++ more) row.0).0) two.0) (rows_miss rows p more two.1)

-- a text that begins no word, number or the like
abbrev pub is_other : List ℕ → Bool
is_other [] = false
is_other (c ∷ cs) = not (is_quote c) && (not (is_letter c) && (not (is_digit c) && (not (is_blank c) && (not (c == 35) && (not (c == 10) && not (239 == c))))))

record Other (c : ℕ) : Type 0 where
  quote : is_quote c ≡ false
  letter : is_letter c ≡ false
  digit : is_digit c ≡ false
  blank : is_blank c ≡ false
  hash : (c == 35) ≡ false
  feed : (c == 10) ≡ false
  first : (239 == c) ≡ false

other_is : (c : ℕ) (cs : List ℕ) → is_other (c ∷ cs) ≡ true → Other c
other_is c cs e =
    let a = and_both _ _ e in
    let b = and_both _ _ a.1 in
    let d = and_both _ _ b.1 in
    let f = and_both _ _ d.1 in
    let g = and_both _ _ f.1 in
    let i = and_both _ _ g.1 in
    record { quote = not_true _ a.0; letter = not_true _ b.0; digit = not_true _ d.0; blank = not_true _ f.0; hash = not_true _ g.0; feed = not_true _ i.0; first = not_true _ i.1 }

mark_ends : (c : ℕ) (cs : List ℕ) (d : ℕ) → Other c → has_longer_mark (c ∷ cs) d ≡ false → Ends (c ∷ cs) d
unfolding mark_of
mark_ends c cs d o e = λ more.
    other_spells c (cs ++ d ∷ more) o.letter o.digit o.blank o.hash o.feed
    ∙ ap (λ xs. is_some (listed marks (c ∷ xs))) (sym (append_assoc cs (d ∷ []) more))
    ∙ ap is_some (rows_miss marks (c ∷ (cs ++ d ∷ [])) more e)

-- ---- brackets

bracket_none : (os : Brackets) (c : ℕ) (o k : Bool) → cond o (nat_lt (length (map (λ (b : ℕ × ℕ). b.1) os)) 50) (cond k (closes_first c (map (λ (b : ℕ × ℕ). b.1) os)) true) ≡ true
    → cond o (unless (nat_lt (length os) 50) fault.Nesting) (cond k (closing_fault c os) None) ≡ None
bracket_none os c true k e = let n : nat_lt (length os) 50 ≡ true = ap (λ n. nat_lt n 50) (sym (length-map os (λ (b : ℕ × ℕ). b.1))) ∙ e in rw n refl
bracket_none [] c false true e = absurd (cc)
bracket_none (o ∷ os) c false true e = rw e refl
bracket_none os c false false e = refl

dot_by : (a b v : Bool) → (a && b && v) ≡ false → (a && (b && v)) ≡ false
dot_by true b v e = e
dot_by false b v e = refl

module _ (x : Mark) where
  follows_parts : (text : List ℕ) (d : ℕ) → mark_text x ≡ text → ends_before (t.Mark x) d ≡ true → (has_longer_mark text d ≡ false) × ((is_dot text && is_digit d) ≡ false)
  follows_parts text d is e = or_both (has_longer_mark text d) (is_dot text && is_digit d) (not_true _ (ap (λ x. not (has_longer_mark x d || (is_dot x && is_digit d))) (sym is) ∙ e))

  mark_at : (c : ℕ) (cs after : List ℕ) → mark_text x ≡ c ∷ cs → Other c → Follows (t.Mark x) after → EndsAt (c ∷ cs) after
  mark_at c cs [] is o f = tt
  mark_at c cs (d ∷ more) is o f = mark_ends c cs d o (follows_parts (c ∷ cs) d is f).0

  no_digit : (c : ℕ) (cs after : List ℕ) → mark_text x ≡ c ∷ cs → Follows (t.Mark x) after → (c == 46 && (is_nil cs && begins is_digit after)) ≡ false
  no_digit c cs [] is f = dot_by (c == 46) (is_nil cs) false (never (c == 46 && is_nil cs))
    where
      never : (v : Bool) → (v && false) ≡ false
      never true = refl
      never false = refl
  no_digit c cs (d ∷ more) is f = dot_by (c == 46) (is_nil cs) (is_digit d) (follows_parts (c ∷ cs) d is f).1

  mark_fault_none : (c : ℕ) (cs after : List ℕ) (h : Bool) (before : List (List ℕ)) → mark_text x ≡ c ∷ cs → Other c → is_mark (c ∷ cs) ≡ true → Follows (t.Mark x) after → fits_by (openings before) c ≡ true → fault_by h before c cs after ≡ None
  unfolding fault_by mark_fault
  mark_fault_none c cs after h before is o e f b =
      rw (o.quote, o.letter, o.digit, o.blank, o.hash, o.feed, e, no_digit c cs after is f, bracket_none (open_after before) c (is_opening c) (is_closing c) b) refl

  mark_by : (text : List ℕ) → mark_text x ≡ text → is_other text ≡ true → list_all is_inline text ≡ true → mark_of text ≡ Some x → Spelt (t.Mark x)
  mark_by [] is o i e = absurd (cc)
  mark_by (c ∷ cs) is oth i e =
      let o = other_is c cs oth in
      let mark : is_mark (c ∷ cs) ≡ true = ap is_some e in
      record {
        c = c;
        cs = cs;
        text = is;
        cut = λ after f. piece_front c cs after o.quote (other_spells c cs o.letter o.digit o.blank o.hash o.feed ∙ mark) (mark_at c cs after is o f);
        token = rw (o.letter, o.digit, o.quote) (ap mark_token e);
        inline = i;
        solid = o.blank;
        first = o.first;
        fault = λ h before after f b. mark_fault_none c cs after h before is o mark f b;
      }

other_text : (x : Mark) → is_other (mark_text x) ≡ true
other_text m.Plus = refl
other_text m.Minus = refl
other_text m.Star = refl
other_text m.DoubleStar = refl
other_text m.Slash = refl
other_text m.DoubleSlash = refl
other_text m.Percent = refl
other_text m.At = refl
other_text m.LeftShift = refl
other_text m.RightShift = refl
other_text m.Ampersand = refl
other_text m.Pipe = refl
other_text m.Caret = refl
other_text m.Tilde = refl
other_text m.Walrus = refl
other_text m.Less = refl
other_text m.Greater = refl
other_text m.LessEqual = refl
other_text m.GreaterEqual = refl
other_text m.EqualEqual = refl
other_text m.NotEqual = refl
other_text m.LeftParen = refl
other_text m.RightParen = refl
other_text m.LeftBracket = refl
other_text m.RightBracket = refl
other_text m.LeftBrace = refl
other_text m.RightBrace = refl
other_text m.Comma = refl
other_text m.Colon = refl
other_text m.Dot = refl
other_text m.Semicolon = refl
other_text m.Equal = refl
other_text m.Arrow = refl
other_text m.Ellipsis = refl
other_text m.PlusEqual = refl
other_text m.MinusEqual = refl
other_text m.StarEqual = refl
other_text m.SlashEqual = refl
other_text m.DoubleSlashEqual = refl
other_text m.PercentEqual = refl
other_text m.AtEqual = refl
other_text m.AmpersandEqual = refl
other_text m.PipeEqual = refl
other_text m.CaretEqual = refl
other_text m.RightShiftEqual = refl
other_text m.LeftShiftEqual = refl
other_text m.DoubleStarEqual = refl

inline_text : (x : Mark) → list_all is_inline (mark_text x) ≡ true
inline_text m.Plus = refl
inline_text m.Minus = refl
inline_text m.Star = refl
inline_text m.DoubleStar = refl
inline_text m.Slash = refl
inline_text m.DoubleSlash = refl
inline_text m.Percent = refl
inline_text m.At = refl
inline_text m.LeftShift = refl
inline_text m.RightShift = refl
inline_text m.Ampersand = refl
inline_text m.Pipe = refl
inline_text m.Caret = refl
inline_text m.Tilde = refl
inline_text m.Walrus = refl
inline_text m.Less = refl
inline_text m.Greater = refl
inline_text m.LessEqual = refl
inline_text m.GreaterEqual = refl
inline_text m.EqualEqual = refl
inline_text m.NotEqual = refl
inline_text m.LeftParen = refl
inline_text m.RightParen = refl
inline_text m.LeftBracket = refl
inline_text m.RightBracket = refl
inline_text m.LeftBrace = refl
inline_text m.RightBrace = refl
inline_text m.Comma = refl
inline_text m.Colon = refl
inline_text m.Dot = refl
inline_text m.Semicolon = refl
inline_text m.Equal = refl
inline_text m.Arrow = refl
inline_text m.Ellipsis = refl
inline_text m.PlusEqual = refl
inline_text m.MinusEqual = refl
inline_text m.StarEqual = refl
inline_text m.SlashEqual = refl
inline_text m.DoubleSlashEqual = refl
inline_text m.PercentEqual = refl
inline_text m.AtEqual = refl
inline_text m.AmpersandEqual = refl
inline_text m.PipeEqual = refl
inline_text m.CaretEqual = refl
inline_text m.RightShiftEqual = refl
inline_text m.LeftShiftEqual = refl
inline_text m.DoubleStarEqual = refl

mark_found : (x : Mark) → mark_of (mark_text x) ≡ Some x
unfolding mark_of marks
mark_found m.Plus = refl
mark_found m.Minus = refl
mark_found m.Star = refl
mark_found m.DoubleStar = refl
mark_found m.Slash = refl
mark_found m.DoubleSlash = refl
mark_found m.Percent = refl
mark_found m.At = refl
mark_found m.LeftShift = refl
mark_found m.RightShift = refl
mark_found m.Ampersand = refl
mark_found m.Pipe = refl
mark_found m.Caret = refl
mark_found m.Tilde = refl
mark_found m.Walrus = refl
mark_found m.Less = refl
mark_found m.Greater = refl
mark_found m.LessEqual = refl
mark_found m.GreaterEqual = refl
mark_found m.EqualEqual = refl
mark_found m.NotEqual = refl
mark_found m.LeftParen = refl
mark_found m.RightParen = refl
mark_found m.LeftBracket = refl
mark_found m.RightBracket = refl
mark_found m.LeftBrace = refl
mark_found m.RightBrace = refl
mark_found m.Comma = refl
mark_found m.Colon = refl
mark_found m.Dot = refl
mark_found m.Semicolon = refl
mark_found m.Equal = refl
mark_found m.Arrow = refl
mark_found m.Ellipsis = refl
mark_found m.PlusEqual = refl
mark_found m.MinusEqual = refl
mark_found m.StarEqual = refl
mark_found m.SlashEqual = refl
mark_found m.DoubleSlashEqual = refl
mark_found m.PercentEqual = refl
mark_found m.AtEqual = refl
mark_found m.AmpersandEqual = refl
mark_found m.PipeEqual = refl
mark_found m.CaretEqual = refl
mark_found m.RightShiftEqual = refl
mark_found m.LeftShiftEqual = refl
mark_found m.DoubleStarEqual = refl

pub mark_spelt : (x : Mark) → Spelt (t.Mark x)
mark_spelt x = mark_by x (mark_text x) refl (other_text x) (inline_text x) (mark_found x)
