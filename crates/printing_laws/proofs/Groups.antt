-- The lines of a block are cut into groups of lines of the text.
use Rattle.std.proofs.Common.{Bool, List, [], false, true, ℕ, ◌∷◌}
use Rattle.std.specs.List.{AllByRecursion}
use Rattle.std.specs.Prelude.{if◌then◌else◌, nat_le, not}
use Rattle.py_cut.specs.Cut as cut
use Rattle.py_language.specs.declared.token.Logical.{Logical}
use Rattle.py_grammar.specs.Blocks.{Group, Member, continues, cut_before, groups, members}
use Rattle.py_layout.proofs.Good.{Good}

module _ {A : Type 0} (P : A → Type 0) where
  -- one, and those after it
  abbrev pub Cut : A × List A → Type 0
  Cut part = P part.0 × AllByRecursion P part.1

  module _ {S : Type 0} (next : S → A → S) (p : S → A → Bool) where
    front_all : (s : S) (xs : List A) → AllByRecursion P xs → AllByRecursion P (cut.front next p s xs)
    front_all s [] h = tt
    front_all s (x ∷ xs) h = by (p s x) (front_all (next s x) xs h.1)
      where
        by : (b : Bool) → AllByRecursion P (cut.front next p (next s x) xs) → AllByRecursion P (if b then [] else x ∷ cut.front next p (next s x) xs)
        by true k = tt
        by false k = (h.0, k)

    pieces_all : (s : S) (xs : List A) → AllByRecursion P xs → AllByRecursion Cut (cut.pieces next p s xs)
    pieces_all s [] h = tt
    pieces_all s (x ∷ xs) h = by (p s x) (front_all (next s x) xs h.1) (pieces_all (next s x) xs h.1)
      where
        by : (b : Bool) → AllByRecursion P (cut.front next p (next s x) xs) → AllByRecursion Cut (cut.pieces next p (next s x) xs)
            → AllByRecursion Cut (if b then (x, cut.front next p (next s x) xs) ∷ cut.pieces next p (next s x) xs else cut.pieces next p (next s x) xs)
        by true k l = ((h.0, k), l)
        by false k l = l

  cut_all : (p : A → Bool) (xs : List A) → AllByRecursion P xs → AllByRecursion Cut (cut_before p xs)
  cut_all p [] h = tt
  cut_all p (x ∷ xs) h = ((h.0, front_all (λ n x. n) (λ n x. p x) 0 xs h.1), pieces_all (λ n x. n) (λ n x. p x) 0 xs h.1)

abbrev pub GoodLine : Logical → Type 0
GoodLine l = Good l.tokens

abbrev pub GoodLines : List Logical → Type 0
GoodLines lines = AllByRecursion GoodLine lines

abbrev pub GoodMember : Member → Type 0
GoodMember m = Cut GoodLine m

abbrev pub GoodMembers : List Member → Type 0
GoodMembers ms = AllByRecursion GoodMember ms

abbrev pub GoodGroup : Group → Type 0
GoodGroup g = Cut GoodMember g

pub groups_good : (column : ℕ) (lines : List Logical) → GoodLines lines → AllByRecursion GoodGroup (groups column lines)
groups_good column lines h =
    cut_all GoodMember (λ m. not (continues column m.0)) (members column lines) (cut_all GoodLine (λ l. nat_le l.column column) lines h)
