-- The earliest of lines that are found one after another.
use Rattle.std.proofs.Common.{◌≡◌, ◌∙◌, refl, sym, ap, ℕ, ◌+◌, ◌<◌, ◌≤◌, Bool, true, false, List, Option, Some, None, [], ◌∷◌, ◌++◌, map, drop, length, get_or, add-one, arith}
use Rattle.std.specs.Prelude.{min, filter, if◌then◌else◌}
use Rattle.std.specs.List.{flat_map}
use Rattle.std.proofs.Math.Seq.{drop-cons}
use Rattle.std.proofs.lemmas.List.{drop_all}
use Rattle.py_scopes.specs.ModuleRows.{line_if}
use Rattle.py_scopes.specs.Pieces.{Place, Piece, lines_in}
use Rattle.py_scopes.specs.Refusals.{least, least_with}
use Rattle.py_scopes.specs.Uses.{Use, Used}
use Rattle.py_name_rules.specs.Earliest.{earlier_of, fault_at}

min_assoc : (a b c : ℕ) → min a (min b c) ≡ min (min a b) c
min_assoc a b c = omega arith

pub earlier_none : (a : Option ℕ) → earlier_of a None ≡ a
earlier_none None = refl
earlier_none (Some a) = refl

earlier_assoc : (a b c : Option ℕ) → earlier_of (earlier_of a b) c ≡ earlier_of a (earlier_of b c)
earlier_assoc None b c = refl
earlier_assoc (Some a) None c = refl
earlier_assoc (Some a) (Some b) None = refl
earlier_assoc (Some a) (Some b) (Some c) = ap (λ n. Some n) (sym (min_assoc a b c))

least_append : (xs ys : List ℕ) → least (xs ++ ys) ≡ earlier_of (least xs) (least ys)
least_append [] ys = refl
least_append (x ∷ xs) ys = ap (least_with x) (least_append xs ys) ∙ sym (earlier_assoc (Some x) (least xs) (least ys))

one_line : (is_faulty : Place → Use → Bool) (place : Place) (b : Bool) (u : Used) (uses : List Used) → map (λ (u : Used). u.line) (filter (λ (u : Used). is_faulty place u.use') uses) ≡ flat_map (fault_at is_faulty place) uses
    → map (λ (u : Used). u.line) (if b then u ∷ filter (λ (u : Used). is_faulty place u.use') uses else filter (λ (u : Used). is_faulty place u.use') uses) ≡ line_if b u.line ++ flat_map (fault_at is_faulty place) uses
one_line is_faulty place true u uses e = ap (λ lines. u.line ∷ lines) e
one_line is_faulty place false u uses e = e

-- the lines in a piece, one use after another
lines_from : (is_faulty : Place → Use → Bool) (place : Place) (uses : List Used) → map (λ (u : Used). u.line) (filter (λ (u : Used). is_faulty place u.use') uses) ≡ flat_map (fault_at is_faulty place) uses
lines_from is_faulty place [] = refl
lines_from is_faulty place (u ∷ uses) = one_line is_faulty place (is_faulty place u.use') u uses (lines_from is_faulty place uses)

pub lines_are : (is_faulty : Place → Use → Bool) (p : Piece) → lines_in is_faulty p ≡ flat_map (fault_at is_faulty p.place) p.uses
lines_are is_faulty p = lines_from is_faulty p.place p.uses

rest_of : {X : Type 0} (xs : List X) (i : ℕ) (x : X) → i < length xs → x ≡ get_or xs i x → drop i xs ≡ x ∷ drop (i + 1) xs
rest_of xs i x lt is = rw (drop-cons xs i x lt, ← is, add-one) refl

module _ {X : Type 0} (f : X → List ℕ) where
  -- one more item
  pub one_more : (xs : List X) (i : ℕ) (x : X) (found found' whole : Option ℕ) → i < length xs → x ≡ get_or xs i x
      → earlier_of found (least (flat_map f (drop i xs))) ≡ whole → found' ≡ earlier_of found (least (f x)) → earlier_of found' (least (flat_map f (drop (i + 1) xs))) ≡ whole
  one_more xs i x found found' whole lt is before e =
      let rest = flat_map f (drop (i + 1) xs) in
      ap (λ o. earlier_of o (least rest)) e
      ∙ earlier_assoc found (least (f x)) (least rest)
      ∙ ap (earlier_of found) (sym (least_append (f x) rest))
      ∙ ap (λ ys. earlier_of found (least (flat_map f ys))) (sym (rest_of xs i x lt is))
      ∙ before

  -- all of them
  pub all_done : (xs : List X) (i : ℕ) (found whole : Option ℕ) → length xs ≤ i → earlier_of found (least (flat_map f (drop i xs))) ≡ whole → found ≡ whole
  all_done xs i found whole le before = sym (earlier_none found) ∙ sym (ap (λ ys. earlier_of found (least (flat_map f ys))) (drop_all i xs le)) ∙ before
