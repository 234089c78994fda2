-- Lists of parts with a mark between them, from the front.
use Rattle.std.proofs.Common.{◌≡◌, ◌∙◌, refl, sym, ap, ℕ, suc, ◌+◌, ◌<◌, ◌≤◌, Bool, true, false, ◌&&◌, List, [], ◌∷◌, ◌++◌, map, length, drop, get_or, append_assoc, append-nil, add-one, arith}
use Rattle.std.specs.Prelude.{◌==◌, if◌then◌else◌}
use Rattle.std.proofs.Math.Seq.{drop-cons}
use Rattle.std.proofs.lemmas.List.{drop_all}
use Rattle.std.proofs.lemmas.Bool.Decides.{nat_tests}
use Rattle.py_language.specs.declared.shape.Symbol.{Symbol}
use Rattle.py_language.specs.declared.shape.Symbol.TheVariants as s
use Rattle.py_printing.specs.Printing.{chain, after_comma, commas, marked, chained, tuple}
use Rattle.py_printer.specs.declared.pen.Pen.{Pen}
use Rattle.py_printer.specs.Expressions.{draw, joint, joined, is_empty, only_comma}
use Rattle.py_printer.proofs.Draws.{draw-append, draw-nil}

-- ---- the same texts by the words of printing

chain-commas : (head : List Symbol) (ts : List (List Symbol)) → chain head (map after_comma ts) ≡ head ++ joined false s.Comma ts
chain-commas head [] = sym (append-nil head)
chain-commas head (t ∷ ts) = ap (λ xs. head ++ s.Comma ∷ xs) (chain-commas t ts)

pub commas-joined : (ts : List (List Symbol)) → commas ts ≡ joined true s.Comma ts
commas-joined [] = refl
commas-joined (t ∷ ts) = chain-commas t ts

chain-marked : (m : Symbol) (head : List Symbol) (ts : List (List Symbol)) → chain head (marked m ts) ≡ head ++ joined false m ts
chain-marked m head [] = sym (append-nil head)
chain-marked m head (t ∷ ts) = ap (λ xs. head ++ m ∷ xs) (chain-marked m t ts)

pub chained-joined : (m : Symbol) (ts : List (List Symbol)) → chained m ts ≡ joined true m ts
chained-joined m [] = refl
chained-joined m (t ∷ ts) = chain-marked m t ts

pub joined-append : (first : Bool) (m : Symbol) (ts us : List (List Symbol)) → joined first m (ts ++ us) ≡ joined first m ts ++ joined (first && is_empty ts) m us
joined-append true m [] us = refl
joined-append false m [] us = refl
joined-append true m (t ∷ ts) us = ap (λ xs. t ++ xs) (joined-append false m ts us) ∙ sym (append_assoc t (joined false m ts) (joined false m us))
joined-append false m (t ∷ ts) us = ap (λ xs. m ∷ (t ++ xs)) (joined-append false m ts us) ∙ ap (λ xs. m ∷ xs) (sym (append_assoc t (joined false m ts) (joined false m us)))

pub empty_length : {X : Type 0} (xs : List X) → (length xs == 0) ≡ is_empty xs
empty_length [] = refl
empty_length (x ∷ xs) = nat_eq-suc (length xs)
  where
    nat_eq-suc : (n : ℕ) → (suc n == 0) ≡ false
    nat_eq-suc n = grind (arith, nat_tests)

pub tuple_is : (ts : List (List Symbol)) → tuple ts ≡ joined true s.Comma ts ++ only_comma (length ts)
tuple_is [] = refl
tuple_is (t ∷ []) = ap (λ xs. xs ++ s.Comma ∷ []) (sym (append-nil t))
tuple_is (t ∷ u ∷ us) =
    let rest = joined true s.Comma (t ∷ u ∷ us) in
    commas-joined (t ∷ u ∷ us) ∙ sym (ap (λ v. rest ++ (if v then s.Comma ∷ [] else [])) (not_one (length us)) ∙ append-nil rest)
  where
    not_one : (n : ℕ) → (suc (suc n) == 1) ≡ false
    not_one n = grind (arith, nat_tests)

-- ---- one more part

pub rest_of : {X : Type 0} (xs : List X) (i : ℕ) (x : X) → i < length xs → x ≡ get_or xs i x → drop i xs ≡ x ∷ drop (i + 1) xs
rest_of xs i x lt is = rw (drop-cons xs i x lt, ← is, add-one) refl

module _ {X : Type 0} (show : X → List Symbol) (m : Symbol) where
  -- what is left from a place on
  abbrev pub left : Bool → List X → ℕ → List Symbol
  left first xs i = joined first m (map show (drop i xs))

  pub one_part : (xs : List X) (i : ℕ) (x : X) (first : Bool) (whole p q r : Pen) → i < length xs → x ≡ get_or xs i x → whole ≡ draw p (left first xs i)
      → q ≡ draw p (joint first m) → r ≡ draw q (show x) → whole ≡ draw r (left false xs (i + 1))
  one_part xs i x first whole p q r lt is before a b =
      let rest = left false xs (i + 1) in
      before ∙ ap (λ ys. draw p (joined first m (map show ys))) (rest_of xs i x lt is)
      ∙ draw-append p (joint first m) (show x ++ rest) ∙ draw-append (draw p (joint first m)) (show x) rest
      ∙ ap (λ z. draw (draw z (show x)) rest) (sym a) ∙ ap (λ z. draw z rest) (sym b)

  pub all_parts : (xs : List X) (i : ℕ) (first : Bool) (whole p : Pen) → length xs ≤ i → whole ≡ draw p (left first xs i) → p ≡ whole
  all_parts xs i first whole p le before = draw-nil p ∙ sym (before ∙ ap (λ ys. draw p (joined first m (map show ys))) (drop_all i xs le))
