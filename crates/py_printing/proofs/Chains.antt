-- Parts with marks between them are cut at the marks.
use Rattle.std.proofs.Common.{◌≡◌, ◌∙◌, sym, ap, refl, subst, ℕ, zero, suc, Bool, true, false, cond, List, [], ◌∷◌, ◌++◌}
use Rattle.py_cut.specs.Cut.{scan, Passes, Stops}
use Rattle.py_cut.specs.Cut as cut
use Rattle.py_cut.proofs.Cuts.{scan-append, Passes-append, front_of, pieces-append, pieces-none, front-whole, passes-wider}
use Rattle.py_language.specs.declared.shape.Bracket.{Bracket}
use Rattle.py_language.specs.declared.shape.Symbol.{Symbol}
use Rattle.py_language.specs.declared.shape.Symbol.TheVariants as s
use Rattle.py_language.specs.TreesPlaces.{Place, start, next, opened, ends, closing, front, pieces}
use Rattle.py_printing.specs.Printing.{chain}

-- after an operand, outside brackets
abbrev pub done : Place
done = record { depth = 0; after = true }

-- no mark is in it, and an operand has ended after it
pub record Part (p : Place → Symbol → Bool) (xs : List Symbol) : Type 0 where
  pub passes : Passes next p start xs
  pub ended : scan next start xs ≡ done

-- a mark after an operand, before the next one
pub record IsMark (p : Place → Symbol → Bool) (m : Symbol) : Type 0 where
  pub marks : p done m ≡ true
  pub begins : next done m ≡ start

-- each mark is one, and each part has none
abbrev pub Marked : (Place → Symbol → Bool) → List (Symbol × List Symbol) → Type 0
Marked p [] = Unit {0}
Marked p (q ∷ qs) = IsMark p q.0 × (Part p q.1 × Marked p qs)

stops : (p : Place → Symbol → Bool) (xs rest : List Symbol) (m : Symbol) → Part p xs → IsMark p m → Stops next p (scan next start xs) (m ∷ rest)
stops p xs rest m a b = ap (λ (s : Place). p s m) a.ended ∙ b.marks

pub front-chain : (p : Place → Symbol → Bool) (xs : List Symbol) (qs : List (Symbol × List Symbol)) → Part p xs → Marked p qs → front p (chain xs qs) ≡ xs
front-chain p xs [] a m = front-whole next p start xs a.passes
front-chain p xs (q ∷ qs) a m = front_of next p start xs (q.0 ∷ chain q.1 qs) a.passes (stops p xs (chain q.1 qs) q.0 a m.0)

pieces_by : (v : Bool) (m : Symbol) (here : List Symbol) (rest : List (Symbol × List Symbol)) → v ≡ true → cond v ((m, here) ∷ rest) rest ≡ (m, here) ∷ rest
pieces_by true m here rest e = refl
pieces_by false m here rest e = absurd (cc)

pub pieces-chain : (p : Place → Symbol → Bool) (xs : List Symbol) (qs : List (Symbol × List Symbol)) → Part p xs → Marked p qs → pieces p (chain xs qs) ≡ qs
pieces-chain p xs [] a m = pieces-none next p start xs a.passes
pieces-chain p xs (q ∷ qs) a m =
    pieces-append next p start xs (q.0 ∷ chain q.1 qs) a.passes
    ∙ ap (λ (s : Place). cut.pieces next p s (q.0 ∷ chain q.1 qs)) a.ended
    ∙ pieces_by (p done q.0) q.0 (cut.front next p (next done q.0) (chain q.1 qs)) (cut.pieces next p (next done q.0) (chain q.1 qs)) m.0.marks
    ∙ ap (λ (s : Place). (q.0, cut.front next p s (chain q.1 qs)) ∷ cut.pieces next p s (chain q.1 qs)) m.0.begins
    ∙ ap (λ z. (q.0, z) ∷ pieces p (chain q.1 qs)) (front-chain p q.1 qs m.1.0 m.1.1)
    ∙ ap (λ zs. (q.0, q.1) ∷ zs) (pieces-chain p q.1 qs m.1.0 m.1.1)

-- a looser test passes over the marks too
pub record IsPassed (p : Place → Symbol → Bool) (m : Symbol) : Type 0 where
  pub passed : p done m ≡ false
  pub begins : next done m ≡ start

abbrev pub Passed : (Place → Symbol → Bool) → List (Symbol × List Symbol) → Type 0
Passed p [] = Unit {0}
Passed p (q ∷ qs) = IsPassed p q.0 × (Part p q.1 × Passed p qs)

-- one part, a passed mark, and another part
pub part-more : (p : Place → Symbol → Bool) (xs ys : List Symbol) (m : Symbol) → Part p xs → IsPassed p m → Part p ys → Part p (xs ++ m ∷ ys)
part-more p xs ys m a b c = record {
  passes = Passes-append next p start xs (m ∷ ys) a.passes
      (subst (λ (s : Place). Passes next p s (m ∷ ys)) (sym a.ended) (b.passed, subst (λ (s : Place). Passes next p s ys) (sym b.begins) c.passes));
  ended = scan-append next start xs (m ∷ ys) ∙ ap (λ (s : Place). scan next s (m ∷ ys)) a.ended ∙ ap (λ (s : Place). scan next s ys) b.begins ∙ c.ended;
}

pub part-chain : (p : Place → Symbol → Bool) (xs : List Symbol) (qs : List (Symbol × List Symbol)) → Part p xs → Passed p qs → Part p (chain xs qs)
part-chain p xs [] a m = a
part-chain p xs (q ∷ qs) a m = part-more p xs (chain q.1 qs) q.0 a m.0 (part-chain p q.1 qs m.1.0 m.1.1)

pub part-wider : (p q : Place → Symbol → Bool) → ((s : Place) (x : Symbol) → p s x ≡ false → q s x ≡ false) → (xs : List Symbol) → Part p xs → Part q xs
part-wider p q w xs a = record { passes = passes-wider next p q w start xs a.passes; ended = a.ended }

-- ---- what is in brackets

-- no closing bracket is unmatched, and none is open at the end
pub record Balanced (xs : List Symbol) : Type 0 where
  pub passes : Passes next closing start xs
  pub level_is : (scan next start xs).depth ≡ 0

deeper_here : (k : ℕ) (a : Bool) (x : Symbol) → closing (record { depth = k; after = a }) x ≡ false → opened (suc k) x ≡ suc (opened k x)
unfolding closing
deeper_here k a (s.Open b) e = refl
deeper_here zero a (s.Close b) e = absurd (cc)
deeper_here (suc k) a (s.Close b) e = refl
deeper_here k a (s.Atom x) e = refl
deeper_here k a (s.Super x) e = refl
deeper_here k a (s.Method x) e = refl
deeper_here k a (s.Attribute x) e = refl
deeper_here k a (s.Sign x) e = refl
deeper_here k a (s.Factor x) e = refl
deeper_here k a (s.Compare x) e = refl
deeper_here k a s.Or e = refl
deeper_here k a s.And e = refl
deeper_here k a s.Not e = refl
deeper_here k a s.If e = refl
deeper_here k a s.Else e = refl
deeper_here k a s.Comma e = refl
deeper_here k a s.Colon e = refl
deeper_here k a s.Equal e = refl
deeper_here k a s.Other e = refl

-- one bracket deeper, the places are one deeper
pub scan-deeper : (k : ℕ) (a : Bool) (xs : List Symbol) → Passes next closing (record { depth = k; after = a }) xs
    → scan next (record { depth = suc k; after = a }) xs ≡ record { depth = suc (scan next (record { depth = k; after = a }) xs).depth; after = (scan next (record { depth = k; after = a }) xs).after }
scan-deeper k a [] h = refl
scan-deeper k a (x ∷ xs) h =
    ap (λ d. scan next (record { depth = d; after = ends x }) xs) (deeper_here k a x h.0) ∙ scan-deeper (opened k x) (ends x) xs h.1

-- a test that marks nothing inside brackets
abbrev pub Outside : (Place → Symbol → Bool) → Type 0
Outside p = (k : ℕ) (a : Bool) (x : Symbol) → p (record { depth = suc k; after = a }) x ≡ false

pub passes-deeper : (p : Place → Symbol → Bool) → Outside p → (k : ℕ) (a : Bool) (xs : List Symbol) → Passes next closing (record { depth = k; after = a }) xs → Passes next p (record { depth = suc k; after = a }) xs
passes-deeper p o k a [] h = tt
passes-deeper p o k a (x ∷ xs) h =
    (o k a x, subst (λ d. Passes next p (record { depth = d; after = ends x }) xs) (sym (deeper_here k a x h.0)) (passes-deeper p o (opened k x) (ends x) xs h.1))

-- after an opening bracket: what it encloses, and the bracket that closes it
pub inside_passes : (p : Place → Symbol → Bool) (xs : List Symbol) (b : Bracket) → Outside p → Balanced xs → Passes next p (record { depth = 1; after = false }) (xs ++ s.Close b ∷ [])
inside_passes p xs b o h =
    Passes-append next p (record { depth = 1; after = false }) xs (s.Close b ∷ []) (passes-deeper p o 0 false xs h.passes)
    (subst (λ (w : Place). Passes next p w (s.Close b ∷ [])) (sym (scan-deeper 0 false xs h.passes)) (o (scan next start xs).depth (scan next start xs).after (s.Close b), tt))

pub inside_ended : (xs : List Symbol) (b : Bracket) → Balanced xs → scan next (record { depth = 1; after = false }) (xs ++ s.Close b ∷ []) ≡ done
inside_ended xs b h =
    scan-append next (record { depth = 1; after = false }) xs (s.Close b ∷ [])
    ∙ ap (λ (w : Place). scan next w (s.Close b ∷ [])) (scan-deeper 0 false xs h.passes)
    ∙ ap (λ d. record { depth = d; after = true }) h.level_is
