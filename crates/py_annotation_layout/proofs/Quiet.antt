-- Tokens among which no separator of a set is outside brackets, and whose brackets close.
use Rattle.std.proofs.Common.{◌≡◌, ◌∙◌, sym, ap, refl, subst, ℕ, zero, suc, Bool, true, false, ◌&&◌, ◌||◌, List, [], ◌∷◌, ◌++◌, arith}
use Rattle.std.specs.Prelude.{◌==◌, nat_lt}
use Rattle.std.proofs.lemmas.Bool.Decides.{nat_tests}
use Rattle.py_cut.specs.Cut.{scan, Passes}
use Rattle.py_language.specs.declared.token.Mark.TheVariants as m
use Rattle.py_language.specs.declared.token.Token.{Token}
use Rattle.py_language.specs.declared.token.Token.TheVariants as t
use Rattle.py_grammar.specs.declared.separator.Separator.{Separator}
use Rattle.py_grammar.specs.Separators.{opened, outside, marks}
use Rattle.py_layout.specs.Small.{joined}

abbrev pub Set : Type 0
Set = Separator → Bool

pub record CalmAt (set : Set) (depth : ℕ) (ts : List Token) : Type 0 where
  pub closes : scan opened depth ts ≡ depth
  pub passes : (p : Separator) → (set p || nat_lt 0 depth) ≡ true → Passes opened (outside p) depth ts

scan-append : (n : ℕ) (xs ys : List Token) → scan opened n (xs ++ ys) ≡ scan opened (scan opened n xs) ys
scan-append n [] ys = refl
scan-append n (x ∷ xs) ys = scan-append (opened n x) xs ys

passes-append : (p : Separator) (n : ℕ) (xs ys : List Token) → Passes opened (outside p) n xs → Passes opened (outside p) (scan opened n xs) ys → Passes opened (outside p) n (xs ++ ys)
passes-append p n [] ys h g = g
passes-append p n (x ∷ xs) ys h g = (h.0, passes-append p (opened n x) xs ys h.1 g)

or_false : (v : Bool) → (v || false) ≡ true → v ≡ true
or_false true h = refl
or_false false h = absurd (cc)

some_open : (n : ℕ) → (suc n == 0) ≡ false
some_open n = grind (arith, nat_tests)

is_open : (n : ℕ) → nat_lt 0 (suc n) ≡ true
is_open n = grind (arith, nat_tests)

or_true : (v : Bool) → (v || true) ≡ true
or_true true = refl
or_true false = refl

-- where brackets are open, nothing is a separator
outside_deep : (p : Separator) (n : ℕ) (x : Token) → outside p (suc n) x ≡ false
unfolding outside
outside_deep p n x = ap (λ v. v && marks p x) (some_open n)

pub outside_here : (p : Separator) (x : Token) (v : Bool) → marks p x ≡ v → outside p 0 x ≡ v
unfolding outside
outside_here p x v e = e

deep : (set : Set) (p : Separator) (n : ℕ) → (set p || nat_lt 0 (suc n)) ≡ true
deep set p n = ap (λ v. set p || v) (is_open n) ∙ or_true (set p)

pub calm_nil : (set : Set) (n : ℕ) → CalmAt set n []
calm_nil set n = record { closes = refl; passes = λ p h. tt }

pub calm_append : (set : Set) (n : ℕ) (xs ys : List Token) → CalmAt set n xs → CalmAt set n ys → CalmAt set n (xs ++ ys)
calm_append set n xs ys f g =
    record {
      closes = scan-append n xs ys ∙ ap (λ k. scan opened k ys) f.closes ∙ g.closes;
      passes = λ p h. passes-append p n xs ys (f.passes p h) (subst (λ k. Passes opened (outside p) k ys) (sym f.closes) (g.passes p h));
    }

-- a token that opens and closes nothing, and is none of the separators
abbrev pub IsPlain : Set → Token → Type 0
IsPlain set x = ((n : ℕ) → opened n x ≡ n) × ((p : Separator) → set p ≡ true → marks p x ≡ false)

pub calm_token : (set : Set) (x : Token) → IsPlain set x → (n : ℕ) → CalmAt set n (x ∷ [])
calm_token set x f n = record { closes = f.0 n; passes = λ p h. (by p n h, tt) }
  where
    by : (p : Separator) (n : ℕ) → (set p || nat_lt 0 n) ≡ true → outside p n x ≡ false
    by p zero h = outside_here p x false (f.1 p (or_false (set p) h))
    by p (suc n) h = outside_deep p n x

pub calm_weaker : (set fewer : Set) → ((p : Separator) → fewer p ≡ true → set p ≡ true) → (n : ℕ) (ts : List Token) → CalmAt set n ts → CalmAt fewer n ts
calm_weaker set fewer sub n ts c = record { closes = c.closes; passes = λ p h. c.passes p (by p (fewer p) (nat_lt 0 n) refl h) }
  where
    by : (p : Separator) (v w : Bool) → fewer p ≡ v → (v || w) ≡ true → (set p || w) ≡ true
    by p true w e h = ap (λ z. z || w) (sub p e)
    by p false true e h = or_true (set p)
    by p false false e h = absurd (cc)

-- tokens between square brackets
pub calm_between : (set other : Set) → ((p : Separator) → set p ≡ true → marks p (t.Mark m.LeftBracket) ≡ false) → (n : ℕ) (ts : List Token) → CalmAt other (suc n) ts → CalmAt set n (t.Mark m.LeftBracket ∷ (ts ++ t.Mark m.RightBracket ∷ []))
calm_between set other free n ts c =
    record {
      closes = scan-append (suc n) ts (t.Mark m.RightBracket ∷ []) ∙ ap (λ k. opened k (t.Mark m.RightBracket)) c.closes;
      passes = λ p h. (first p n h, passes-append p (suc n) ts (t.Mark m.RightBracket ∷ []) (c.passes p (deep other p n)) (subst (λ k. Passes opened (outside p) k (t.Mark m.RightBracket ∷ [])) (sym c.closes) (outside_deep p n (t.Mark m.RightBracket), tt)));
    }
  where
    first : (p : Separator) (n : ℕ) → (set p || nat_lt 0 n) ≡ true → outside p n (t.Mark m.LeftBracket) ≡ false
    first p zero h = outside_here p (t.Mark m.LeftBracket) false (free p (or_false (set p) h))
    first p (suc n) h = outside_deep p n (t.Mark m.LeftBracket)

-- parts, with commas between them
abbrev pub AllCalm : Set → ℕ → List (List Token) → Type 0
AllCalm set n [] = Unit {0}
AllCalm set n (xs ∷ more) = CalmAt set n xs × AllCalm set n more

pub calm_joined : (set : Set) (n : ℕ) → CalmAt set n (t.Mark m.Comma ∷ []) → (parts : List (List Token)) → AllCalm set n parts → CalmAt set n (joined parts)
calm_joined set n comma [] h = calm_nil set n
calm_joined set n comma (xs ∷ []) h = h.0
calm_joined set n comma (xs ∷ ys ∷ more) h = calm_append set n xs (t.Mark m.Comma ∷ joined (ys ∷ more)) h.0 (calm_append set n (t.Mark m.Comma ∷ []) (joined (ys ∷ more)) comma (calm_joined set n comma (ys ∷ more) h.1))

pub comma_deep : (set : Set) (n : ℕ) → CalmAt set (suc n) (t.Mark m.Comma ∷ [])
comma_deep set n = record { closes = refl; passes = λ p h. (outside_deep p n (t.Mark m.Comma), tt) }
