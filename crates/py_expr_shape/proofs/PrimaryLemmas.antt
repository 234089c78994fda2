-- What has no operator outside brackets is the same at each level.
use Rattle.std.proofs.Common.{◌≡◌, ◌<◌, ◌≤◌, ℕ, Bool, true, false, List, [], ◌∷◌, Option, None, refl, sym, ap, ◌∙◌, arith, append-nil}
use Rattle.std.specs.Prelude.{◌==◌, ◌&&◌, nat_lt}
use Rattle.std.proofs.lemmas.Bool.Decides.{nat_tests}
use Rattle.py_cut.specs.Cut as cut
use Rattle.py_cut.proofs.Cuts as cuts
use Rattle.py_language.specs.declared.shape.Shape.{Shape}
use Rattle.py_language.specs.declared.shape.Symbol.{Symbol}
use Rattle.py_language.specs.declared.shape.Symbol.TheVariants as s
use Rattle.py_language.specs.Trees.{at_level, listed, conditional, disjunction, conjunction, negation, comparison, sum, product, signed, postfix}
use Rattle.py_language.specs.TreesPlaces.{Level, Listed, Conditional, Disjunction, Conjunction, Negation, Comparison, Sum, Product, Signed, Postfix, Place, start, next, number, rank, at, below, back, pieces, last_cut}
use Rattle.py_expr_shape.specs.Cuts.{IsPrimary, NoSign, NotAhead}

not_at : (b : Bool) (r n : ℕ) → n < 10 → (b && nat_lt r 10) ≡ false → (b && (r == n)) ≡ false
not_at true r n lt h = grind (arith, nat_tests)
not_at false r n lt h = refl

not_below : (b : Bool) (r n : ℕ) → n < 10 → (b && nat_lt r 10) ≡ false → (b && nat_lt r n) ≡ false
not_below true r n lt h = grind (arith, nat_tests)
not_below false r n lt h = refl

none_at : (l : Level) → number l < 10 → (p : Place) (x : Symbol) → below Postfix p x ≡ false → at l p x ≡ false
unfolding at below
none_at l lt p x h = not_at (p.depth == 0) (rank p.after x) (number l) lt h

none_below : (l : Level) → number l < 10 → (p : Place) (x : Symbol) → below Postfix p x ≡ false → below l p x ≡ false
unfolding below
none_below l lt p x h = not_below (p.depth == 0) (rank p.after x) (number l) lt h

module _ (part : Level → List Symbol → Option Shape) (xs : List Symbol) (is : IsPrimary xs) where
  passes : cut.Passes next (below Postfix) start xs
  passes = cuts.passes_all next (below Postfix) start xs is.no_operator

  passes_at : (l : Level) → number l < 10 → cut.Passes next (at l) start xs
  passes_at l lt = cuts.passes-wider next (below Postfix) (at l) (none_at l lt) start xs passes

  no_pieces : (l : Level) → number l < 10 → pieces (at l) xs ≡ []
  no_pieces l lt = cuts.pieces-none next (at l) start xs (passes_at l lt)

  no_cut : (l : Level) → number l < 10 → last_cut (at l) xs ≡ None
  no_cut l lt = cuts.last_cut-passes next (at l) start xs (passes_at l lt)

  no_back : back (below Disjunction) xs ≡ []
  no_back = ap (back (below Disjunction)) (sym (append-nil xs)) ∙ cuts.back-append next (below Disjunction) start xs [] (cuts.passes-wider next (below Postfix) (below Disjunction) (none_below Disjunction (omega arith)) start xs passes)

  unsigned : (ys : List Symbol) → NoSign ys → signed part ys ≡ postfix part ys
  unfolding signed
  unsigned [] n = refl
  unsigned (s.Sign g ∷ ys) n = absurd (n g refl)
  unsigned (_ ∷ ys) n = refl

  not_negated : (ys : List Symbol) → NotAhead s.Not ys → negation part ys ≡ comparison part ys
  unfolding negation
  not_negated [] n = refl
  not_negated (s.Not ∷ ys) n = absurd (n refl)
  not_negated (_ ∷ ys) n = refl

  product_is : product part xs ≡ postfix part xs
  unfolding product
  product_is = rw (no_cut Product (omega arith)) (unsigned xs is.no_sign)

  sum_is : sum part xs ≡ postfix part xs
  unfolding sum
  sum_is = rw (no_cut Sum (omega arith)) product_is

  comparison_is : comparison part xs ≡ postfix part xs
  unfolding comparison
  comparison_is = rw (no_pieces Comparison (omega arith)) sum_is

  negation_is : negation part xs ≡ postfix part xs
  negation_is = not_negated xs is.no_not ∙ comparison_is

  conjunction_is : conjunction part xs ≡ postfix part xs
  unfolding conjunction
  conjunction_is = rw (no_pieces Conjunction (omega arith)) negation_is

  disjunction_is : disjunction part xs ≡ postfix part xs
  unfolding disjunction
  disjunction_is = rw (no_pieces Disjunction (omega arith)) conjunction_is

  conditional_is : conditional part xs ≡ postfix part xs
  unfolding conditional
  conditional_is = rw no_back disjunction_is

  listed_is : listed part xs ≡ postfix part xs
  unfolding listed
  listed_is = rw (no_pieces Listed (omega arith)) conditional_is

  pub primary : (l : Level) → at_level part l xs ≡ postfix part xs
  primary Listed = listed_is
  primary Conditional = conditional_is
  primary Disjunction = disjunction_is
  primary Conjunction = conjunction_is
  primary Negation = negation_is
  primary Comparison = comparison_is
  primary Sum = sum_is
  primary Product = product_is
  primary Signed = unsigned xs is.no_sign
  primary Postfix = refl
