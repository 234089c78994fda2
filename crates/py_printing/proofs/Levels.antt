-- What is well formed at a level is read at each looser level as at its own.
use Rattle.std.proofs.Common.{◌≡◌, ◌∙◌, sym, ap, refl, ℕ, zero, suc, ◌<◌, ◌≤◌, Bool, true, false, ◌&&◌, ◌||◌, not, List, [], ◌∷◌, Option, None, arith, append-nil}
use Rattle.std.specs.Prelude.{◌==◌, nat_lt}
use Rattle.std.proofs.lemmas.Bool.Decides.{nat_tests}
use Rattle.py_cut.specs.Cut.{Passes}
use Rattle.py_cut.proofs.Cuts.{pieces-none, back_of, passes-wider, last_cut-passes}
use Rattle.py_language.specs.declared.shape.Shape.{Shape}
use Rattle.py_language.specs.declared.shape.Symbol.{Symbol}
use Rattle.py_language.specs.declared.shape.Symbol.TheVariants as s
use Rattle.py_language.specs.TreesPlaces.{Level, Listed, Conditional, Disjunction, Conjunction, Negation, Comparison, Sum, Product, Signed, Postfix, Place, start, next, number, rank, at, below, closing, colon, back, pieces, last_cut}
use Rattle.py_language.specs.Trees.{at_level, listed, conditional, disjunction, conjunction, negation, comparison, sum, product, signed, postfix}
use Rattle.py_printing.proofs.Chains.{Part, part-wider, Outside}

abbrev pub is_equal : Symbol → Bool
is_equal s.Equal = true
is_equal _ = false

abbrev pub is_not : Symbol → Bool
is_not s.Not = true
is_not _ = false

abbrev pub is_sign : Symbol → Bool
is_sign (s.Sign g) = true
is_sign _ = false

-- what no expression of the level has outside brackets: a looser mark, or `=`
unfoldable pub wrong : Level → Place → Symbol → Bool
wrong l w x = (w.depth == 0) && (is_equal x || nat_lt (rank w.after x) (number l))

-- what an expression of the level may begin with
abbrev pub fine_first : Level → Symbol → Bool
fine_first l x = (not (is_not x) || nat_lt (number l) 6) && (not (is_sign x) || nat_lt (number l) 10)

abbrev pub fine : Level → List Symbol → Bool
fine l [] = false
fine l (x ∷ xs) = fine_first l x

pub record Good (l : Level) (xs : List Symbol) : Type 0 where
  pub part : Part (wrong l) xs
  pub first : fine l xs ≡ true

-- ---- tests that pass where others do

and_false : (v : Bool) → (v && false) ≡ false
and_false true = refl
and_false false = refl

pub looser_rank : (d e : Bool) (r l m : ℕ) → l ≤ m → (d && (e || nat_lt r m)) ≡ false → (d && (e || nat_lt r l)) ≡ false
looser_rank false e r l m le h = refl
looser_rank true true r l m le h = h
looser_rank true false r l m le h = grind (arith, nat_tests)

pub wrong-looser : (l m : Level) → number l ≤ number m → (w : Place) (x : Symbol) → wrong m w x ≡ false → wrong l w x ≡ false
unfolding wrong
wrong-looser l m le w x h = looser_rank (w.depth == 0) (is_equal x) (rank w.after x) (number l) (number m) le h

at_rank : (d e : Bool) (r l m : ℕ) → l < m → (d && (e || nat_lt r m)) ≡ false → (d && (r == l)) ≡ false
at_rank false e r l m lt h = refl
at_rank true true r l m lt h = absurd (cc)
at_rank true false r l m lt h = grind (arith, nat_tests)

pub at-looser : (l m : Level) → number l < number m → (w : Place) (x : Symbol) → wrong m w x ≡ false → at l w x ≡ false
unfolding wrong at
at-looser l m lt w x h = at_rank (w.depth == 0) (is_equal x) (rank w.after x) (number l) (number m) lt h

below_rank : (d e : Bool) (r m : ℕ) → (d && (e || nat_lt r m)) ≡ false → (d && nat_lt r m) ≡ false
below_rank false e r m h = refl
below_rank true true r m h = absurd (cc)
below_rank true false r m h = h

pub below-same : (m : Level) (w : Place) (x : Symbol) → wrong m w x ≡ false → below m w x ≡ false
unfolding wrong below
below-same m w x h = below_rank (w.depth == 0) (is_equal x) (rank w.after x) (number m) h

number_some : (m : Level) → nat_lt 0 (number m) ≡ true
number_some Listed = refl
number_some Conditional = refl
number_some Disjunction = refl
number_some Conjunction = refl
number_some Negation = refl
number_some Comparison = refl
number_some Sum = refl
number_some Product = refl
number_some Signed = refl
number_some Postfix = refl

zero_by : (d v : Bool) → v ≡ true → (d && v) ≡ false → d ≡ false
zero_by true true e h = h
zero_by true false e h = absurd (cc)
zero_by false v e h = refl

pub closing-wrong : (m : Level) (w : Place) (x : Symbol) → wrong m w x ≡ false → closing w x ≡ false
unfolding wrong closing
closing-wrong m w (s.Atom x) h = refl
closing-wrong m w (s.Super x) h = refl
closing-wrong m w (s.Method x) h = refl
closing-wrong m w (s.Attribute x) h = refl
closing-wrong m w (s.Sign x) h = refl
closing-wrong m w (s.Factor x) h = refl
closing-wrong m w (s.Compare x) h = refl
closing-wrong m w s.Or h = refl
closing-wrong m w s.And h = refl
closing-wrong m w s.Not h = refl
closing-wrong m w s.If h = refl
closing-wrong m w s.Else h = refl
closing-wrong m w s.Comma h = refl
closing-wrong m w s.Colon h = refl
closing-wrong m w s.Equal h = refl
closing-wrong m w (s.Open x) h = refl
closing-wrong m w (s.Close x) h = zero_by (w.depth == 0) (nat_lt 0 (number m)) (number_some m) h
closing-wrong m w s.Other h = refl

pub colon-wrong : (m : Level) (w : Place) (x : Symbol) → wrong m w x ≡ false → colon w x ≡ false
unfolding wrong colon
colon-wrong m w (s.Atom x) h = refl
colon-wrong m w (s.Super x) h = refl
colon-wrong m w (s.Method x) h = refl
colon-wrong m w (s.Attribute x) h = refl
colon-wrong m w (s.Sign x) h = refl
colon-wrong m w (s.Factor x) h = refl
colon-wrong m w (s.Compare x) h = refl
colon-wrong m w s.Or h = refl
colon-wrong m w s.And h = refl
colon-wrong m w s.Not h = refl
colon-wrong m w s.If h = refl
colon-wrong m w s.Else h = refl
colon-wrong m w s.Comma h = refl
colon-wrong m w s.Colon h = zero_by (w.depth == 0) (nat_lt 0 (number m)) (number_some m) h
colon-wrong m w s.Equal h = refl
colon-wrong m w (s.Open x) h = refl
colon-wrong m w (s.Close x) h = refl
colon-wrong m w s.Other h = refl

pub some_more : (k : ℕ) → (suc k == 0) ≡ false
some_more k = grind (arith, nat_tests)

-- inside brackets nothing is wrong
pub wrong-outside : (m : Level) → Outside (wrong m)
unfolding wrong
wrong-outside m k a x = rw (some_more k) refl

pub at-outside : (m : Level) → Outside (at m)
unfolding at
at-outside m k a x = rw (some_more k) refl

pub below-outside : (m : Level) → Outside (below m)
unfolding below
below-outside m k a x = rw (some_more k) refl

-- ---- one level looser

abbrev pub looser : Level → Level
looser Listed = Listed
looser Conditional = Listed
looser Disjunction = Conditional
looser Conjunction = Disjunction
looser Negation = Conjunction
looser Comparison = Negation
looser Sum = Comparison
looser Product = Sum
looser Signed = Product
looser Postfix = Signed

looser_le : (m : Level) → number (looser m) ≤ number m
looser_le Listed = omega arith
looser_le Conditional = omega arith
looser_le Disjunction = omega arith
looser_le Conjunction = omega arith
looser_le Negation = omega arith
looser_le Comparison = omega arith
looser_le Sum = omega arith
looser_le Product = omega arith
looser_le Signed = omega arith
looser_le Postfix = omega arith

first_looser : (n g : Bool) (l m : ℕ) → l ≤ m → ((not n || nat_lt m 6) && (not g || nat_lt m 10)) ≡ true → ((not n || nat_lt l 6) && (not g || nat_lt l 10)) ≡ true
first_looser false false l m le h = refl
first_looser true false l m le h = grind (arith, nat_tests)
first_looser false true l m le h = grind (arith, nat_tests)
first_looser true true l m le h = grind (arith, nat_tests)

fine-looser : (l m : Level) → number l ≤ number m → (xs : List Symbol) → fine m xs ≡ true → fine l xs ≡ true
fine-looser l m le [] h = h
fine-looser l m le (x ∷ xs) h = first_looser (is_not x) (is_sign x) (number l) (number m) le h

pub good-looser : (l m : Level) → number l ≤ number m → (xs : List Symbol) → Good m xs → Good l xs
good-looser l m le xs g = record { part = part-wider (wrong m) (wrong l) (wrong-looser l m le) xs g.part; first = fine-looser l m le xs g.first }

pub passes_at : (l m : Level) → number l < number m → (xs : List Symbol) → Good m xs → Passes next (at l) start xs
passes_at l m lt xs g = passes-wider next (wrong m) (at l) (at-looser l m lt) start xs g.part.passes

no_pieces : (l m : Level) → number l < number m → (xs : List Symbol) → Good m xs → pieces (at l) xs ≡ []
no_pieces l m lt xs g = pieces-none next (at l) start xs (passes_at l m lt xs g)

no_cut : (l m : Level) → number l < number m → (xs : List Symbol) → Good m xs → last_cut (at l) xs ≡ None
no_cut l m lt xs g = last_cut-passes next (at l) start xs (passes_at l m lt xs g)

pub no_back : (p : Place → Symbol → Bool) (xs : List Symbol) → Passes next p start xs → back p xs ≡ []
no_back p xs h = ap (back p) (sym (append-nil xs)) ∙ back_of next p start xs [] h tt

module _ (part : Level → List Symbol → Option Shape) where
  negation_by : (xs : List Symbol) → fine Comparison xs ≡ true → negation part xs ≡ comparison part xs
  unfolding negation
  negation_by [] h = absurd (cc)
  negation_by ((s.Atom x) ∷ xs) h = refl
  negation_by ((s.Super x) ∷ xs) h = refl
  negation_by ((s.Method x) ∷ xs) h = refl
  negation_by ((s.Attribute x) ∷ xs) h = refl
  negation_by ((s.Sign x) ∷ xs) h = refl
  negation_by ((s.Factor x) ∷ xs) h = refl
  negation_by ((s.Compare x) ∷ xs) h = refl
  negation_by (s.Or ∷ xs) h = refl
  negation_by (s.And ∷ xs) h = refl
  negation_by (s.Not ∷ xs) h = absurd (cc)
  negation_by (s.If ∷ xs) h = refl
  negation_by (s.Else ∷ xs) h = refl
  negation_by (s.Comma ∷ xs) h = refl
  negation_by (s.Colon ∷ xs) h = refl
  negation_by (s.Equal ∷ xs) h = refl
  negation_by ((s.Open x) ∷ xs) h = refl
  negation_by ((s.Close x) ∷ xs) h = refl
  negation_by (s.Other ∷ xs) h = refl

  signed_by : (xs : List Symbol) → fine Postfix xs ≡ true → signed part xs ≡ postfix part xs
  unfolding signed
  signed_by [] h = absurd (cc)
  signed_by ((s.Atom x) ∷ xs) h = refl
  signed_by ((s.Super x) ∷ xs) h = refl
  signed_by ((s.Method x) ∷ xs) h = refl
  signed_by ((s.Attribute x) ∷ xs) h = refl
  signed_by ((s.Sign x) ∷ xs) h = absurd (cc)
  signed_by ((s.Factor x) ∷ xs) h = refl
  signed_by ((s.Compare x) ∷ xs) h = refl
  signed_by (s.Or ∷ xs) h = refl
  signed_by (s.And ∷ xs) h = refl
  signed_by (s.Not ∷ xs) h = refl
  signed_by (s.If ∷ xs) h = refl
  signed_by (s.Else ∷ xs) h = refl
  signed_by (s.Comma ∷ xs) h = refl
  signed_by (s.Colon ∷ xs) h = refl
  signed_by (s.Equal ∷ xs) h = refl
  signed_by ((s.Open x) ∷ xs) h = refl
  signed_by ((s.Close x) ∷ xs) h = refl
  signed_by (s.Other ∷ xs) h = refl

  one_looser : (m : Level) (xs : List Symbol) → Good m xs → at_level part (looser m) xs ≡ at_level part m xs
  unfolding listed conditional disjunction conjunction comparison sum product
  one_looser Listed xs g = refl
  one_looser Conditional xs g = rw (no_pieces Listed Conditional (omega arith) xs g) refl
  one_looser Disjunction xs g = rw (no_back (below Disjunction) xs (passes-wider next (wrong Disjunction) (below Disjunction) (below-same Disjunction) start xs g.part.passes)) refl
  one_looser Conjunction xs g = rw (no_pieces Disjunction Conjunction (omega arith) xs g) refl
  one_looser Negation xs g = rw (no_pieces Conjunction Negation (omega arith) xs g) refl
  one_looser Comparison xs g = negation_by xs g.first
  one_looser Sum xs g = rw (no_pieces Comparison Sum (omega arith) xs g) refl
  one_looser Product xs g = rw (no_cut Sum Product (omega arith) xs g) refl
  one_looser Signed xs g = rw (no_cut Product Signed (omega arith) xs g) refl
  one_looser Postfix xs g = signed_by xs g.first

-- so many levels looser
abbrev pub loosened : ℕ → Level → Level
loosened zero m = m
loosened (suc n) m = looser (loosened n m)

loosened_le : (n : ℕ) (m : Level) → number (loosened n m) ≤ number m
loosened_le zero m = omega arith
loosened_le (suc n) m = let a = loosened_le n m in let b = looser_le (loosened n m) in omega arith

pub good_loosened : (n : ℕ) (m : Level) (xs : List Symbol) → Good m xs → Good (loosened n m) xs
good_loosened n m xs g = good-looser (loosened n m) m (loosened_le n m) xs g

pub read_loosened : (part : Level → List Symbol → Option Shape) (n : ℕ) (m : Level) (xs : List Symbol) → Good m xs → at_level part (loosened n m) xs ≡ at_level part m xs
read_loosened part zero m xs g = refl
read_loosened part (suc n) m xs g = one_looser part (loosened n m) xs (good_loosened n m xs g) ∙ read_loosened part n m xs g
