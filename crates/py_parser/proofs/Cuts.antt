-- Cutting lines at columns: into members, and into statements.
use Rattle.std.proofs.Common.{◌≡◌, ◌≤◌, ◌<◌, ℕ, suc, ◌+◌, Bool, true, false, cond, not, List, [], ◌∷◌, take, drop, length, refl, sym, ap, ◌∙◌, arith}
use Rattle.std.specs.List.{prefix_len}
use Rattle.std.specs.Prelude.{◌&&◌}
use Rattle.py_cut.proofs.Cuts as cuts
use Rattle.py_language.specs.declared.token.Logical.{Logical}
use Rattle.py_grammar.specs.Blocks.{front, back, pieces, cut_before, members, groups, continues, Member}
use Rattle.py_parser.specs.Lines.{is_at, begins_anew}

module _ {A : Type 0} (p : A → Bool) where
  taken_by : (b : Bool) (x : A) (xs zs : List A) (n : ℕ) → take n xs ≡ zs → take (cond (not b) (1 + n) 0) (x ∷ xs) ≡ cond b [] (x ∷ zs)
  taken_by true x xs zs n h = refl
  taken_by false x xs zs n h = let e : 1 + n ≡ suc n = omega arith in ap (λ k. take k (x ∷ xs)) e ∙ ap (λ ys. x ∷ ys) h

  -- so many items as p does not hold of are the front
  pub front_taken : (xs : List A) → take (prefix_len (λ x. not (p x)) xs) xs ≡ front p xs
  front_taken [] = refl
  front_taken (x ∷ xs) = taken_by (p x) x xs (front p xs) (prefix_len (λ y. not (p y)) xs) (front_taken xs)

  dropped_by : (b : Bool) (x : A) (xs zs : List A) (n : ℕ) → drop n xs ≡ zs → drop (cond (not b) (1 + n) 0) (x ∷ xs) ≡ cond b (x ∷ xs) zs
  dropped_by true x xs zs n h = refl
  dropped_by false x xs zs n h = let e : 1 + n ≡ suc n = omega arith in ap (λ k. drop k (x ∷ xs)) e ∙ h

  pub back_dropped : (xs : List A) → drop (prefix_len (λ x. not (p x)) xs) xs ≡ back p xs
  back_dropped [] = refl
  back_dropped (x ∷ xs) = dropped_by (p x) x xs (back p xs) (prefix_len (λ y. not (p y)) xs) (back_dropped xs)

  pub back_shorter : (xs : List A) → length (back p xs) ≤ length xs
  back_shorter xs = cuts.back-shorter (λ (n : ℕ) x. n) (λ n x. p x) 0 xs

  again_by : (b : Bool) (x : A) (xs zs : List A) → p x ≡ b → pieces p xs ≡ cut_before p zs → cond b ((x, front p xs) ∷ pieces p xs) (pieces p xs) ≡ cut_before p (cond b (x ∷ xs) zs)
  again_by true x xs zs e h = refl
  again_by false x xs zs e h = h

  -- the pieces behind a front are those of the rest
  pub pieces_again : (xs : List A) → pieces p xs ≡ cut_before p (back p xs)
  pieces_again [] = refl
  pieces_again (x ∷ xs) = again_by (p x) x xs (back p xs) refl (pieces_again xs)

-- cut first at those of the marks where h holds too
module _ {A : Type 0} (q h : A → Bool) where
  abbrev pub both : A → Bool
  both x = q x && h x

  abbrev pub starts : A × List A → Bool
  starts m = h m.0

  not_both : (n : ℕ) (x : A) → q x ≡ false → both x ≡ false
  not_both n x e = rw e refl

  pub inner_front : (xs : List A) → front q (front both xs) ≡ front q xs
  inner_front xs = cuts.front-front (λ (n : ℕ) x. n) (λ n x. both x) (λ n x. q x) not_both 0 xs

  front_by : (a b : Bool) (x : A) (xs : List A) → q x ≡ a → h x ≡ b → front starts (pieces q xs) ≡ pieces q (front both xs)
      → front starts (cond a ((x, front q xs) ∷ pieces q xs) (pieces q xs)) ≡ pieces q (cond (a && b) [] (x ∷ front both xs))
  front_by true true x xs e d g = rw d refl
  front_by true false x xs e d g = rw (d, e) (ap (λ zs. (x, zs) ∷ front starts (pieces q xs)) (sym (inner_front xs)) ∙ ap (λ ps. (x, front q (front both xs)) ∷ ps) g)
  front_by false b x xs e d g = rw e g

  pub front_of_pieces : (xs : List A) → front starts (pieces q xs) ≡ pieces q (front both xs)
  front_of_pieces [] = refl
  front_of_pieces (x ∷ xs) = front_by (q x) (h x) x xs refl refl (front_of_pieces xs)

  back_by : (a b : Bool) (x : A) (xs : List A) → q x ≡ a → h x ≡ b → back starts (pieces q xs) ≡ cut_before q (back both xs)
      → back starts (cond a ((x, front q xs) ∷ pieces q xs) (pieces q xs)) ≡ cut_before q (cond (a && b) (x ∷ xs) (back both xs))
  back_by true true x xs e d g = rw d refl
  back_by true false x xs e d g = rw d g
  back_by false b x xs e d g = g

  pub back_of_pieces : (xs : List A) → back starts (pieces q xs) ≡ cut_before q (back both xs)
  back_of_pieces [] = refl
  back_of_pieces (x ∷ xs) = back_by (q x) (h x) x xs refl refl (back_of_pieces xs)

-- ---- members and statements

pub members_next : (column : ℕ) (xs : List Logical) (x : Logical) → members column (x ∷ xs) ≡ (x, front (is_at column) xs) ∷ members column (back (is_at column) xs)
members_next column xs x = ap (λ ms. (x, front (is_at column) xs) ∷ ms) (pieces_again (is_at column) xs)

pub first_member : (column : ℕ) (lines others deeper rest : List Logical) (x : Logical) → lines ≡ x ∷ others → deeper ≡ front (is_at column) others → rest ≡ back (is_at column) others
    → members column lines ≡ (x, deeper) ∷ members column rest
first_member column lines others deeper rest x e d r = rw (e, d, r) (members_next column others x)

abbrev pub no_continuing : ℕ → Logical → Bool
no_continuing column l = not (continues column l)

pub groups_next : (column : ℕ) (xs : List Logical) (x : Logical) → groups column (x ∷ xs)
    ≡ ((x, front (is_at column) (front (begins_anew column) xs)), members column (back (is_at column) (front (begins_anew column) xs))) ∷ groups column (back (begins_anew column) xs)
groups_next column xs x =
    let q = is_at column in
    let h = no_continuing column in
    let g = λ (m : Member). h m.0 in
    ap (λ zs. ((x, zs), front g (pieces q xs)) ∷ pieces g (pieces q xs)) (sym (inner_front q h xs))
    ∙ ap (λ zs. ((x, front q (front (both q h) xs)), zs) ∷ pieces g (pieces q xs)) (front_of_pieces q h xs ∙ pieces_again q (front (both q h) xs))
    ∙ ap (λ gs. ((x, front q (front (both q h) xs)), members column (back q (front (both q h) xs))) ∷ gs) (pieces_again g (pieces q xs) ∙ ap (cut_before g) (back_of_pieces q h xs))

pub first_group : (column : ℕ) (lines after whole rest deeper others : List Logical) (x : Logical) → lines ≡ x ∷ after → whole ≡ front (begins_anew column) after → rest ≡ back (begins_anew column) after
    → deeper ≡ front (is_at column) whole → others ≡ back (is_at column) whole → groups column lines ≡ ((x, deeper), members column others) ∷ groups column rest
first_group column lines after whole rest deeper others x e w r d o = rw (e, d, o, w, r) (groups_next column after x)

pub shorter : (p : Logical → Bool) (lines others rest : List Logical) (x : Logical) → lines ≡ x ∷ others → rest ≡ back p others → length rest < length lines
shorter p lines others rest x e r = omega (arith, ap length e, ap length r, back_shorter p others)
