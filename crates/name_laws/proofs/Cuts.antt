-- What holds of each element of a list holds of the elements of its parts.
use Rattle.std.proofs.Common.{Bool, List, [], false, true, ◌∷◌}
use Rattle.std.specs.List.{AllByRecursion}
use Rattle.std.specs.Prelude.{if◌then◌else◌}
use Rattle.py_cut.specs.Cut as cut
use Rattle.py_grammar.specs.Blocks.{cut_before}

module _ {A : Type 0} (P : A → Type 0) where
  -- an element, and those after it
  abbrev pub Part : A × List A → Type 0
  Part part = P part.0 × AllByRecursion P part.1

  module _ {S : Type 0} (next : S → A → S) (p : S → A → Bool) where
    pub front_all : (s : S) (xs : List A) → AllByRecursion P xs → AllByRecursion P (cut.front next p s xs)
    front_all s [] h = tt
    front_all s (x ∷ xs) h = by (p s x) (front_all (next s x) xs h.1)
      where
        by : (b : Bool) → AllByRecursion P (cut.front next p (next s x) xs) → AllByRecursion P (if b then [] else x ∷ cut.front next p (next s x) xs)
        by true k = tt
        by false k = (h.0, k)

    pub pieces_all : (s : S) (xs : List A) → AllByRecursion P xs → AllByRecursion Part (cut.pieces next p s xs)
    pieces_all s [] h = tt
    pieces_all s (x ∷ xs) h = by (p s x) (front_all (next s x) xs h.1) (pieces_all (next s x) xs h.1)
      where
        by : (b : Bool) → AllByRecursion P (cut.front next p (next s x) xs) → AllByRecursion Part (cut.pieces next p (next s x) xs)
            → AllByRecursion Part (if b then (x, cut.front next p (next s x) xs) ∷ cut.pieces next p (next s x) xs else cut.pieces next p (next s x) xs)
        by true k l = ((h.0, k), l)
        by false k l = l

  pub parts_all : (p : A → Bool) (xs : List A) → AllByRecursion P xs → AllByRecursion Part (cut_before p xs)
  parts_all p [] h = tt
  parts_all p (x ∷ xs) h = ((h.0, front_all (λ n x. n) (λ n x. p x) 0 xs h.1), pieces_all (λ n x. n) (λ n x. p x) 0 xs h.1)
