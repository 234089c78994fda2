-- The longest mark is among the fronts of three, two and one bytes.
use Rattle.std.proofs.Common.{◌≡◌, ◌∙◌, sym, ap, refl, ℕ, zero, suc, ◌<◌, ◌≤◌, ◌-◌, Bool, true, false, cond, List, [], ◌∷◌, length, take, min, Option, Some, None, is_some, bytes_eq, subst, not, arith}
use Rattle.std.specs.Prelude.{nat_lt, codes}
use Rattle.std.proofs.lemmas.List.{length-take-le}
use Rattle.std.proofs.lemmas.Bool.Decides.{nat_tests}
use Rattle.std.proofs.lemmas.Slice.Eq.{bytes_eq-Decides}
use Rattle.py_language.specs.declared.token.Mark.{Mark}
use Rattle.py_language.specs.declared.token.Mark.TheVariants as m
use Rattle.py_language.specs.TokensCharacters.{begins}
use Rattle.py_language.specs.TokensNames.{listed}
use Rattle.py_language.specs.TokensMarks.{marks, mark_of}
use Rattle.py_language.specs.TokensPieces.{longest_within, longest, at_least_one, piece_len}
use Rattle.py_lexer.specs.Scan.{is_second, mark_or, longest_mark}
use Rattle.py_lexer.specs.Found.{Other}
use Rattle.py_lexer.proofs.LongestLemmas.{no_mark, other_spells}

-- ---- the rows in another order

abbrev pub table : List (List ℕ × Mark)
table =
    (codes "(", m.LeftParen) ∷ (codes ")", m.RightParen) ∷ (codes ",", m.Comma) ∷ (codes ".", m.Dot) ∷ (codes "=", m.Equal) ∷ (codes ":", m.Colon)
    ∷ (codes "[", m.LeftBracket) ∷ (codes "]", m.RightBracket) ∷ (codes "-", m.Minus) ∷ (codes "+", m.Plus) ∷ (codes "*", m.Star) ∷ (codes "/", m.Slash)
    ∷ (codes "{", m.LeftBrace) ∷ (codes "}", m.RightBrace) ∷ (codes "<", m.Less) ∷ (codes ">", m.Greater) ∷ (codes "%", m.Percent) ∷ (codes "@", m.At)
    ∷ (codes "&", m.Ampersand) ∷ (codes "|", m.Pipe) ∷ (codes "^", m.Caret) ∷ (codes "~", m.Tilde) ∷ (codes ";", m.Semicolon) ∷ (codes "==", m.EqualEqual)
    ∷ (codes "!=", m.NotEqual) ∷ (codes "+=", m.PlusEqual) ∷ (codes "-=", m.MinusEqual) ∷ (codes "<=", m.LessEqual) ∷ (codes ">=", m.GreaterEqual)
    ∷ (codes "**", m.DoubleStar) ∷ (codes "//", m.DoubleSlash) ∷ (codes "->", m.Arrow) ∷ (codes ":=", m.Walrus) ∷ (codes "*=", m.StarEqual)
    ∷ (codes "/=", m.SlashEqual) ∷ (codes "<<", m.LeftShift) ∷ (codes ">>", m.RightShift) ∷ (codes "%=", m.PercentEqual) ∷ (codes "@=", m.AtEqual)
    ∷ (codes "&=", m.AmpersandEqual) ∷ (codes "|=", m.PipeEqual) ∷ (codes "^=", m.CaretEqual) ∷ (codes "...", m.Ellipsis)
    ∷ (codes "//=", m.DoubleSlashEqual) ∷ (codes "**=", m.DoubleStarEqual) ∷ (codes ">>=", m.RightShiftEqual) ∷ (codes "<<=", m.LeftShiftEqual) ∷ []

-- each row of a table is found in another
abbrev AreIn : List (List ℕ × Mark) → List (List ℕ × Mark) → Type 0
AreIn rows [] = Unit {0}
AreIn rows (x ∷ xs) = (listed rows x.0 ≡ Some x.1) × AreIn rows xs

found_in : (xs rows : List (List ℕ × Mark)) (text : List ℕ) (mark : Mark) → AreIn rows xs → listed xs text ≡ Some mark → listed rows text ≡ Some mark
found_in [] rows text mark all e = absurd (cc)
found_in (x ∷ xs) rows text mark all e = found_by (bytes_eq text x.0) refl e (λ f. found_in xs rows text mark all.1 f)
  where
    found_by : (v : Bool) → bytes_eq text x.0 ≡ v → cond v (Some x.1) (listed xs text) ≡ Some mark → (listed xs text ≡ Some mark → listed rows text ≡ Some mark) → listed rows text ≡ Some mark
    found_by true t f ih = let is : text ≡ x.0 = (bytes_eq-Decides text x.0).0 t in ap (listed rows) is ∙ (all.0 ∙ f)
    found_by false t f ih = ih f

same_by : (a b : Option Mark) → ((m : Mark) → a ≡ Some m → b ≡ Some m) → ((m : Mark) → b ≡ Some m → a ≡ Some m) → a ≡ b
same_by (Some m) b f g = sym (f m refl)
same_by None (Some m) f g = g m refl
same_by None None f g = refl

all_marks : AreIn marks table
unfolding marks
all_marks = (refl, (refl, (refl, (refl, (refl, (refl, (refl, (refl, (refl, (refl, (refl, (refl, (refl, (refl, (refl, (refl, (refl, (refl, (refl, (refl, (refl, (refl, (refl, (refl, (refl, (refl, (refl, (refl, (refl, (refl, (refl, (refl, (refl, (refl, (refl, (refl, (refl, (refl, (refl, (refl, (refl, (refl, (refl, (refl, (refl, (refl, (refl, tt)))))))))))))))))))))))))))))))))))))))))))))))

all_listed : AreIn table marks
unfolding marks
all_listed = (refl, (refl, (refl, (refl, (refl, (refl, (refl, (refl, (refl, (refl, (refl, (refl, (refl, (refl, (refl, (refl, (refl, (refl, (refl, (refl, (refl, (refl, (refl, (refl, (refl, (refl, (refl, (refl, (refl, (refl, (refl, (refl, (refl, (refl, (refl, (refl, (refl, (refl, (refl, (refl, (refl, (refl, (refl, (refl, (refl, (refl, (refl, tt)))))))))))))))))))))))))))))))))))))))))))))))

pub table_is : (text : List ℕ) → listed table text ≡ mark_of text
unfolding mark_of
table_is text = same_by (listed table text) (listed marks text) (λ k e. found_in table marks text k all_marks e) (λ k e. found_in marks table text k all_listed e)

-- ---- the longest

-- no row is longer than three
too_long : (text : List ℕ) → 3 < length text → mark_of text ≡ None
unfolding marks
too_long text lt = no_mark (λ r. nat_lt 3 (length r)) text refl (grind (arith, nat_tests))

pub within_three : (n : ℕ) (text : List ℕ) → n ≤ length text → longest_mark n text ≡ longest_mark (min 3 n) text
within_three zero text le = refl
within_three (suc zero) text le = refl
within_three (suc (suc zero)) text le = refl
within_three (suc (suc (suc zero))) text le = refl
within_three (suc (suc (suc (suc n)))) text le =
    ap (λ o. mark_or o (suc (suc (suc (suc n)))) (longest_mark (suc (suc (suc n))) text)) (too_long (take (suc (suc (suc (suc n)))) text) (omega (arith, length-take-le (suc (suc (suc (suc n)))) text le)))
    ∙ (within_three (suc (suc (suc n))) text (omega arith) ∙ ap (λ k. longest_mark k text) (omega arith))

-- where the second byte is of no mark, none is longer than one
abbrev second_stops : List ℕ → Bool
second_stops [] = false
second_stops (c ∷ cs) = begins (λ d. not (is_second d)) cs

stops_here : (c d : ℕ) (ds : List ℕ) → is_second d ≡ false → mark_of (c ∷ d ∷ ds) ≡ None
unfolding marks
stops_here c d ds e = no_mark second_stops (c ∷ d ∷ ds) refl (ap not e)

pub within_one : (c : ℕ) (cs : List ℕ) → begins is_second cs ≡ false → longest_mark (min (suc (length cs)) 1) (c ∷ cs) ≡ longest_mark (min 3 (suc (length cs))) (c ∷ cs)
within_one c [] e = refl
within_one c (d ∷ []) e = sym (ap (λ o. mark_or o 2 (longest_mark 1 (c ∷ d ∷ []))) (stops_here c d [] e))
within_one c (d ∷ x ∷ ds) e =
    let one : min (suc (suc (suc (length ds)))) 1 ≡ 1 = omega arith in
    let three : 3 ≡ min 3 (suc (suc (suc (length ds)))) = omega arith in
    ap (λ n. longest_mark n (c ∷ d ∷ x ∷ ds)) one
    ∙ (sym (ap (λ o. mark_or o 3 (longest_mark 2 (c ∷ d ∷ x ∷ ds))) (stops_here c d (x ∷ []) e) ∙ ap (λ o. mark_or o 2 (longest_mark 1 (c ∷ d ∷ x ∷ ds))) (stops_here c d [] e)) ∙ ap (λ n. longest_mark n (c ∷ d ∷ x ∷ ds)) three)

pub shorter_is : (n : ℕ) (text : List ℕ) (x : Option (Mark × ℕ)) → 0 < n → None ≡ mark_of (take n text) → longest_mark n text ≡ x → longest_mark (n - 1) text ≡ x
shorter_is zero text x lo none same = absurd (omega arith)
shorter_is (suc n) text x lo none same = let less : suc n - 1 ≡ n = omega arith in ap (λ k. longest_mark k text) less ∙ (ap (λ o. mark_or o (suc n) (longest_mark n text)) none ∙ same)

pub most_is : (text rest : List ℕ) (c : ℕ) → text ≡ c ∷ rest → longest_mark (min (length text) (cond (begins is_second rest) 3 1)) text ≡ longest_mark (min 3 (length text)) text
most_is text rest c e = subst (λ xs. longest_mark (min (length xs) (cond (begins is_second rest) 3 1)) xs ≡ longest_mark (min 3 (length xs)) xs) (sym e) (most_by (begins is_second rest) refl)
  where
    most_by : (v : Bool) → begins is_second rest ≡ v → longest_mark (min (suc (length rest)) (cond v 3 1)) (c ∷ rest) ≡ longest_mark (min 3 (suc (length rest))) (c ∷ rest)
    most_by true f = ap (λ n. longest_mark n (c ∷ rest)) (omega arith)
    most_by false f = within_one c rest f

some_is : (a b : Mark × ℕ) → ◌≡◌ {A = Option (Mark × ℕ)} (Some a) (Some b) → a ≡ b
some_is a b e = cc

-- the mark found is the one that the front is
pub mark_is : (n : ℕ) (text : List ℕ) (mark : Mark) (k : ℕ) → longest_mark n text ≡ Some (mark, k) → mark_of (take k text) ≡ Some mark
mark_is zero text mark k e = absurd (cc)
mark_is (suc n) text mark k e = is_by (mark_of (take (suc n) text)) refl e (λ f. mark_is n text mark k f)
  where
    is_by : (o : Option Mark) → mark_of (take (suc n) text) ≡ o → mark_or o (suc n) (longest_mark n text) ≡ Some (mark, k) → (longest_mark n text ≡ Some (mark, k) → mark_of (take k text) ≡ Some mark) → mark_of (take k text) ≡ Some mark
    is_by None eo f ih = ih f
    is_by (Some m) eo f ih = let same = some_is (m, suc n) (mark, k) f in ap (λ j. mark_of (take j text)) (sym (ap (λ (r : Mark × ℕ). r.1) same)) ∙ (eo ∙ ap (λ (r : Mark × ℕ). let found : Option Mark = Some r.0 in found) same)

abbrev len_of : Option (Mark × ℕ) → ℕ
len_of None = 0
len_of (Some r) = r.1

module _ (c : ℕ) (cs : List ℕ) (o : Other c) where
  longest_by : (n : ℕ) → longest_within n (c ∷ cs) ≡ len_of (longest_mark n (c ∷ cs))
  longest_by zero = refl
  longest_by (suc n) = rw (other_spells c (take n cs) o.letter o.digit o.blank o.hash o.feed) (step_by (mark_of (c ∷ take n cs)) (longest_by n))
    where
      step_by : (m : Option Mark) → longest_within n (c ∷ cs) ≡ len_of (longest_mark n (c ∷ cs)) → cond (is_some m) (suc n) (longest_within n (c ∷ cs)) ≡ len_of (mark_or m (suc n) (longest_mark n (c ∷ cs)))
      step_by None ih = ih
      step_by (Some m) ih = refl

  pub mark_len : (found : Option (Mark × ℕ)) → found ≡ longest_mark (min 3 (suc (length cs))) (c ∷ cs) → piece_len c cs ≡ at_least_one (len_of found)
  unfolding piece_len longest
  mark_len found e = rw o.quote (ap at_least_one (longest_by (suc (length cs)) ∙ ap len_of (within_three (suc (length cs)) (c ∷ cs) (omega arith) ∙ sym e)))

  -- where no front is a mark, the first character is none
  pub none_here : longest_mark (min 3 (suc (length cs))) (c ∷ cs) ≡ None → mark_of (c ∷ []) ≡ None
  none_here e = first_by (length cs) (within_three (suc (length cs)) (c ∷ cs) (omega arith) ∙ e)
    where
      rest_none : (m : Option Mark) (n : ℕ) (shorter : Option (Mark × ℕ)) → mark_or m n shorter ≡ None → (m ≡ None) × (shorter ≡ None)
      rest_none None n shorter f = (refl, f)
      rest_none (Some m) n shorter f = absurd (cc)

      first_by : (n : ℕ) → longest_mark (suc n) (c ∷ cs) ≡ None → mark_of (c ∷ []) ≡ None
      first_by zero f = (rest_none (mark_of (c ∷ [])) 1 None f).0
      first_by (suc n) f = first_by n ((rest_none (mark_of (c ∷ take (suc n) cs)) (suc (suc n)) (longest_mark (suc n) (c ∷ cs)) f).1)
