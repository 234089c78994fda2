-- Where a list is cut that has no mark but the one that is named.
use Rattle.std.proofs.Common.{◌≡◌, ap, refl, Bool, true, false, cond, List, [], ◌∷◌, ◌++◌, Some, None}
use Rattle.py_cut.specs.Cut as cut

module _ {S A : Type 0} (next : S → A → S) (p : S → A → Bool) where
  pub front_pass : (s : S) (xs : List A) → cut.Passes next p s xs → cut.front next p s xs ≡ xs
  front_pass s [] h = refl
  front_pass s (x ∷ xs) h = rw h.0 (ap (λ z. x ∷ z) (front_pass (next s x) xs h.1))

  pub back_pass : (s : S) (xs : List A) → cut.Passes next p s xs → cut.back next p s xs ≡ []
  back_pass s [] h = refl
  back_pass s (x ∷ xs) h = rw h.0 (back_pass (next s x) xs h.1)

  pub pieces_pass : (s : S) (xs : List A) → cut.Passes next p s xs → cut.pieces next p s xs ≡ []
  pieces_pass s [] h = refl
  pieces_pass s (x ∷ xs) h = rw h.0 (pieces_pass (next s x) xs h.1)

  pub last_cut_pass : (s : S) (xs : List A) → cut.Passes next p s xs → cut.last_cut next p s xs ≡ None
  last_cut_pass s [] h = refl
  last_cut_pass s (x ∷ xs) h = rw (last_cut_pass (next s x) xs h.1, h.0) refl

  pub front_at : (s : S) (xs : List A) (m : A) (ys : List A) → cut.Passes next p s xs → p (cut.scan next s xs) m ≡ true → cut.front next p s (xs ++ m ∷ ys) ≡ xs
  front_at s [] m ys h e = rw e refl
  front_at s (x ∷ xs) m ys h e = rw h.0 (ap (λ z. x ∷ z) (front_at (next s x) xs m ys h.1 e))

  pub back_at : (s : S) (xs : List A) (m : A) (ys : List A) → cut.Passes next p s xs → p (cut.scan next s xs) m ≡ true → cut.back next p s (xs ++ m ∷ ys) ≡ m ∷ ys
  back_at s [] m ys h e = rw e refl
  back_at s (x ∷ xs) m ys h e = rw h.0 (back_at (next s x) xs m ys h.1 e)

  pub pieces_at : (s : S) (xs : List A) (m : A) (ys : List A) → cut.Passes next p s xs → p (cut.scan next s xs) m ≡ true
      → cut.pieces next p s (xs ++ m ∷ ys) ≡ (m, cut.front next p (next (cut.scan next s xs) m) ys) ∷ cut.pieces next p (next (cut.scan next s xs) m) ys
  pieces_at s [] m ys h e = rw e refl
  pieces_at s (x ∷ xs) m ys h e = rw h.0 (pieces_at (next s x) xs m ys h.1 e)

  pub last_cut_at : (s : S) (xs : List A) (m : A) (ys : List A) → p (cut.scan next s xs) m ≡ true → cut.Passes next p (next (cut.scan next s xs) m) ys → cut.last_cut next p s (xs ++ m ∷ ys) ≡ Some (xs, m, ys)
  last_cut_at s [] m ys e h = rw (last_cut_pass (next s m) ys h, e) refl
  last_cut_at s (x ∷ xs) m ys e h = rw (last_cut_at (next s x) xs m ys e h) refl

  -- where nothing is behind the front, there is no mark
  pub none_behind : (s : S) (xs : List A) → cut.back next p s xs ≡ [] → cut.Passes next p s xs
  none_behind s [] h = tt
  none_behind s (x ∷ xs) h = by (p s x) refl (λ g. none_behind (next s x) xs g) h
    where
      by : (v : Bool) → p s x ≡ v → (cut.back next p (next s x) xs ≡ [] → cut.Passes next p (next s x) xs) → cond v (x ∷ xs) (cut.back next p (next s x) xs) ≡ [] → (p s x ≡ false) × cut.Passes next p (next s x) xs
      by true e more g = absurd (cc)
      by false e more g = (e, more g)
