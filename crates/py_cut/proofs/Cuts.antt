-- Lemmas on cuts, for any marks.
use Rattle.std.proofs.Common.{◌≡◌, ◌≤◌, Bool, true, false, cond, List, [], ◌∷◌, ◌++◌, length, Option, Some, None, refl, sym, ap, ◌∙◌, subst, arith, length-append}
use Rattle.std.proofs.lemmas.List.{append-nil}
use Rattle.py_cut.specs.Cut.{scan, Passes, Stops, front, back, pieces, or_here, last_cut}

module _ {S A : Type 0} (next : S → A → S) where
  pub scan-append : (s : S) (xs ys : List A) → scan next s (xs ++ ys) ≡ scan next (scan next s xs) ys
  scan-append s [] ys = refl
  scan-append s (x ∷ xs) ys = scan-append (next s x) xs ys

  module _ (p : S → A → Bool) where
    pub front-append : (s : S) (xs ys : List A) → Passes next p s xs → front next p s (xs ++ ys) ≡ xs ++ front next p (scan next s xs) ys
    front-append s [] ys h = refl
    front-append s (x ∷ xs) ys h = rw h.0 (ap (λ zs. x ∷ zs) (front-append (next s x) xs ys h.1))

    pub back-append : (s : S) (xs ys : List A) → Passes next p s xs → back next p s (xs ++ ys) ≡ back next p (scan next s xs) ys
    back-append s [] ys h = refl
    back-append s (x ∷ xs) ys h = rw h.0 (back-append (next s x) xs ys h.1)

    pub pieces-append : (s : S) (xs ys : List A) → Passes next p s xs → pieces next p s (xs ++ ys) ≡ pieces next p (scan next s xs) ys
    pieces-append s [] ys h = refl
    pieces-append s (x ∷ xs) ys h = rw h.0 (pieces-append (next s x) xs ys h.1)

    pub Passes-append : (s : S) (xs ys : List A) → Passes next p s xs → Passes next p (scan next s xs) ys → Passes next p s (xs ++ ys)
    Passes-append s [] ys h g = g
    Passes-append s (x ∷ xs) ys h g = (h.0, Passes-append (next s x) xs ys h.1 g)

    -- where the list stops at once, its front is empty
    pub front-stops : (s : S) (ys : List A) → Stops next p s ys → front next p s ys ≡ []
    front-stops s [] h = refl
    front-stops s (y ∷ ys) h = rw h refl

    pub back-stops : (s : S) (ys : List A) → Stops next p s ys → back next p s ys ≡ ys
    back-stops s [] h = refl
    back-stops s (y ∷ ys) h = rw h refl

    front_passes_by : (s : S) (x : A) (xs : List A) (b : Bool) → p s x ≡ b → Passes next p (next s x) (front next p (next s x) xs) → Passes next p s (cond b [] (x ∷ front next p (next s x) xs))
    front_passes_by s x xs true e h = tt
    front_passes_by s x xs false e h = (e, h)

    pub front_passes : (s : S) (xs : List A) → Passes next p s (front next p s xs)
    front_passes s [] = tt
    front_passes s (x ∷ xs) = front_passes_by s x xs (p s x) refl (front_passes (next s x) xs)

    front_back_by : (s : S) (x : A) (xs : List A) (b : Bool) → front next p (next s x) xs ++ back next p (next s x) xs ≡ xs
        → cond b [] (x ∷ front next p (next s x) xs) ++ cond b (x ∷ xs) (back next p (next s x) xs) ≡ x ∷ xs
    front_back_by s x xs true h = refl
    front_back_by s x xs false h = ap (λ zs. x ∷ zs) h

    pub front-back : (s : S) (xs : List A) → front next p s xs ++ back next p s xs ≡ xs
    front-back s [] = refl
    front-back s (x ∷ xs) = front_back_by s x xs (p s x) (front-back (next s x) xs)

    back_stops_by : (s : S) (x : A) (xs : List A) (b : Bool) → p s x ≡ b → Stops next p (scan next (next s x) (front next p (next s x) xs)) (back next p (next s x) xs)
        → Stops next p (scan next s (cond b [] (x ∷ front next p (next s x) xs))) (cond b (x ∷ xs) (back next p (next s x) xs))
    back_stops_by s x xs true e h = e
    back_stops_by s x xs false e h = h

    -- behind the front comes a mark, or nothing
    pub back_stops : (s : S) (xs : List A) → Stops next p (scan next s (front next p s xs)) (back next p s xs)
    back_stops s [] = tt
    back_stops s (x ∷ xs) = back_stops_by s x xs (p s x) refl (back_stops (next s x) xs)

    pub last_cut-passes : (s : S) (xs : List A) → Passes next p s xs → last_cut next p s xs ≡ None
    last_cut-passes s [] h = refl
    last_cut-passes s (x ∷ xs) h = rw (h.0, last_cut-passes (next s x) xs h.1) refl

    -- a cut behind xs is the last one
    pub last_cut-behind : (s : S) (xs ys : List A) (c : List A × A × List A) → last_cut next p (scan next s xs) ys ≡ Some c → last_cut next p s (xs ++ ys) ≡ Some (xs ++ c.0, c.1, c.2)
    last_cut-behind s [] ys c h = h
    last_cut-behind s (x ∷ xs) ys c h = rw (last_cut-behind (next s x) xs ys c h) refl

    abbrev pub extended : List A → Option (List A × A × List A) → Option (List A × A × List A)
    extended ys None = None
    extended ys (Some c) = Some (c.0, c.1, c.2 ++ ys)

    extended-or_here : (b : Bool) (x : A) (xs ys : List A) (c : Option (List A × A × List A)) → or_here next p b x (xs ++ ys) (extended ys c) ≡ extended ys (or_here next p b x xs c)
    extended-or_here b x xs ys (Some c) = refl
    extended-or_here true x xs ys None = refl
    extended-or_here false x xs ys None = refl

    -- where there is none behind xs, the last one is in xs
    pub last_cut-before : (s : S) (xs ys : List A) → last_cut next p (scan next s xs) ys ≡ None → last_cut next p s (xs ++ ys) ≡ extended ys (last_cut next p s xs)
    last_cut-before s [] ys h = h
    last_cut-before s (x ∷ xs) ys h = ap (or_here next p (p s x) x (xs ++ ys)) (last_cut-before (next s x) xs ys h) ∙ extended-or_here (p s x) x xs ys (last_cut next p (next s x) xs)

    pub last_cut-at : (s : S) (xs : List A) (y : A) (ys : List A) → p (scan next s xs) y ≡ true → Passes next p (next (scan next s xs) y) ys → last_cut next p s (xs ++ y ∷ ys) ≡ Some (xs, y, ys)
    last_cut-at s xs y ys h g =
        last_cut-behind s xs (y ∷ ys) ([], y, ys) (rw (h, last_cut-passes (next (scan next s xs) y) ys g) refl) ∙ ap (λ zs. Some (zs, y, ys)) (append-nil xs)

  -- a front within a front: q stops at least where p does
  module _ (p q : S → A → Bool) (wider : (s : S) (x : A) → q s x ≡ false → p s x ≡ false) where
    inner_by : (s : S) (x : A) (xs zs : List A) (a b : Bool) → q s x ≡ b → (b ≡ false → a ≡ false) → (b ≡ false → front next q (next s x) zs ≡ front next q (next s x) xs) → front next q s (cond a [] (x ∷ zs)) ≡ cond b [] (x ∷ front next q (next s x) xs)
    inner_by s x xs zs true true e w h = refl
    inner_by s x xs zs true false e w h = absurd (let w' = w refl in cc)
    inner_by s x xs zs false true e w h = rw e refl
    inner_by s x xs zs false false e w h = rw e (ap (λ ys. x ∷ ys) (h refl))

    pub front-front : (s : S) (xs : List A) → front next q s (front next p s xs) ≡ front next q s xs
    front-front s [] = refl
    front-front s (x ∷ xs) = inner_by s x xs (front next p (next s x) xs) (p s x) (q s x) refl (wider s x) (λ _. front-front (next s x) xs)

    outer_by : (s : S) (x : A) (xs zs : List A) (a b : Bool) → p s x ≡ a → q s x ≡ b → (b ≡ false → a ≡ false) → zs ≡ front next p (next s x) xs
        → back next q (next s x) zs ≡ front next p (scan next (next s x) (front next q (next s x) xs)) (back next q (next s x) xs)
        → back next q s (cond a [] (x ∷ zs)) ≡ front next p (scan next s (cond b [] (x ∷ front next q (next s x) xs))) (cond b (x ∷ xs) (back next q (next s x) xs))
    outer_by s x xs zs true true d e w z h = rw d refl
    outer_by s x xs zs true false d e w z h = absurd (let w' = w refl in cc)
    outer_by s x xs zs false true d e w z h = rw (e, d) (ap (λ ys. x ∷ ys) z)
    outer_by s x xs zs false false d e w z h = rw e h

    pub back-front : (s : S) (xs : List A) → back next q s (front next p s xs) ≡ front next p (scan next s (front next q s xs)) (back next q s xs)
    back-front s [] = refl
    back-front s (x ∷ xs) = outer_by s x xs (front next p (next s x) xs) (p s x) (q s x) refl refl (wider s x) refl (back-front (next s x) xs)

    behind_by : (s : S) (x : A) (xs : List A) (a b : Bool) → p s x ≡ a → (b ≡ false → a ≡ false) → back next p (next s x) xs ≡ back next p (scan next (next s x) (front next q (next s x) xs)) (back next q (next s x) xs)
        → cond a (x ∷ xs) (back next p (next s x) xs) ≡ back next p (scan next s (cond b [] (x ∷ front next q (next s x) xs))) (cond b (x ∷ xs) (back next q (next s x) xs))
    behind_by s x xs true true d w h = rw d refl
    behind_by s x xs true false d w h = absurd (let w' = w refl in cc)
    behind_by s x xs false true d w h = rw d refl
    behind_by s x xs false false d w h = h

    pub back-back : (s : S) (xs : List A) → back next p s xs ≡ back next p (scan next s (front next q s xs)) (back next q s xs)
    back-back s [] = refl
    back-back s (x ∷ xs) = behind_by s x xs (p s x) (q s x) refl (wider s x) (back-back (next s x) xs)

  module _ (p : S → A → Bool) where
    pub front-mark : (s : S) (xs : List A) (y : A) (ys : List A) → p (scan next s xs) y ≡ true → front next p s (xs ++ y ∷ ys) ≡ front next p s xs
    front-mark s [] y ys h = rw h refl
    front-mark s (x ∷ xs) y ys h = ap (λ zs. cond (p s x) [] (x ∷ zs)) (front-mark (next s x) xs y ys h)

    grown : (b : Bool) (a : A × List A) (ps qs : List (A × List A)) → cond b (a ∷ (ps ++ qs)) (ps ++ qs) ≡ cond b (a ∷ ps) ps ++ qs
    grown true a ps qs = refl
    grown false a ps qs = refl

    pub pieces-mark : (s : S) (xs : List A) (y : A) (ys : List A) → p (scan next s xs) y ≡ true
        → pieces next p s (xs ++ y ∷ ys) ≡ pieces next p s xs ++ (y, front next p (next (scan next s xs) y) ys) ∷ pieces next p (next (scan next s xs) y) ys
    pieces-mark s [] y ys h = rw h refl
    pieces-mark s (x ∷ xs) y ys h =
        ap (λ zs. cond (p s x) ((x, zs) ∷ pieces next p (next s x) (xs ++ y ∷ ys)) (pieces next p (next s x) (xs ++ y ∷ ys))) (front-mark (next s x) xs y ys h)
        ∙ ap (λ ps. cond (p s x) ((x, front next p (next s x) xs) ∷ ps) ps) (pieces-mark (next s x) xs y ys h)
        ∙ grown (p s x) (x, front next p (next s x) xs) _ _

    pub front-whole : (s : S) (xs : List A) → Passes next p s xs → front next p s xs ≡ xs
    front-whole s [] h = refl
    front-whole s (x ∷ xs) h = rw h.0 (ap (λ zs. x ∷ zs) (front-whole (next s x) xs h.1))

    pub pieces-none : (s : S) (xs : List A) → Passes next p s xs → pieces next p s xs ≡ []
    pieces-none s [] h = refl
    pieces-none s (x ∷ xs) h = rw h.0 (pieces-none (next s x) xs h.1)

  module _ (p : S → A → Bool) where
    -- what is read without a mark, up to where a mark stands, is the front
    pub front_of : (s : S) (read rest : List A) → Passes next p s read → Stops next p (scan next s read) rest → front next p s (read ++ rest) ≡ read
    front_of s read rest h g = front-append p s read rest h ∙ ap (λ zs. read ++ zs) (front-stops p (scan next s read) rest g) ∙ append-nil read

    pub back_of : (s : S) (read rest : List A) → Passes next p s read → Stops next p (scan next s read) rest → back next p s (read ++ rest) ≡ rest
    back_of s read rest h g = back-append p s read rest h ∙ back-stops p (scan next s read) rest g

    -- a list with nothing from a mark on has no mark
    pub passes_all : (s : S) (xs : List A) → back next p s xs ≡ [] → Passes next p s xs
    passes_all s xs e = subst (Passes next p s) (sym (append-nil (front next p s xs)) ∙ ap (λ zs. front next p s xs ++ zs) (sym e) ∙ front-back p s xs) (front_passes p s xs)

    joined_by : (b : Bool) (x : A) (xs : List A) (o : Option (List A × A × List A)) (c : List A × A × List A) → ((e : List A × A × List A) → o ≡ Some e → e.0 ++ e.1 ∷ e.2 ≡ xs)
        → or_here next p b x xs o ≡ Some c → c.0 ++ c.1 ∷ c.2 ≡ x ∷ xs
    joined_by b x xs (Some e) c ih h =
        let same : ◌≡◌ {A = List A × A × List A} (x ∷ e.0, e.1, e.2) c = cc in
        ap (λ (q : List A × A × List A). q.0 ++ q.1 ∷ q.2) (sym same) ∙ ap (λ zs. x ∷ zs) (ih e refl)
    joined_by true x xs None c ih h =
        let same : ◌≡◌ {A = List A × A × List A} ([], x, xs) c = cc in
        ap (λ (q : List A × A × List A). q.0 ++ q.1 ∷ q.2) (sym same)
    joined_by false x xs None c ih h = absurd (cc)

    -- the parts of the last cut, joined
    pub last_cut-joined : (s : S) (xs : List A) (c : List A × A × List A) → last_cut next p s xs ≡ Some c → c.0 ++ c.1 ∷ c.2 ≡ xs
    last_cut-joined s [] c h = absurd (cc)
    last_cut-joined s (x ∷ xs) c h = joined_by (p s x) x xs (last_cut next p (next s x) xs) c (λ e. last_cut-joined (next s x) xs e) h

    pub back-shorter : (s : S) (xs : List A) → length (back next p s xs) ≤ length xs
    back-shorter s xs = omega (arith, ap length (front-back p s xs), length-append (front next p s xs) (back next p s xs))

  -- q marks at least where p does not pass
  module _ (p q : S → A → Bool) (wider : (s : S) (x : A) → p s x ≡ false → q s x ≡ false) where
    pub passes-wider : (s : S) (xs : List A) → Passes next p s xs → Passes next q s xs
    passes-wider s [] h = tt
    passes-wider s (x ∷ xs) h = (wider s x h.0, passes-wider (next s x) xs h.1)

  -- two tests that agree
  module _ (p q : S → A → Bool) (same : (s : S) (x : A) → p s x ≡ q s x) where
    pub front-same : (s : S) (xs : List A) → front next p s xs ≡ front next q s xs
    front-same s [] = refl
    front-same s (x ∷ xs) = ap (λ b. cond b [] (x ∷ front next p (next s x) xs)) (same s x) ∙ ap (λ zs. cond (q s x) [] (x ∷ zs)) (front-same (next s x) xs)

    pub back-same : (s : S) (xs : List A) → back next p s xs ≡ back next q s xs
    back-same s [] = refl
    back-same s (x ∷ xs) = ap (λ b. cond b (x ∷ xs) (back next p (next s x) xs)) (same s x) ∙ ap (λ zs. cond (q s x) (x ∷ xs) zs) (back-same (next s x) xs)
