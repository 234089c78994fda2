-- The second pass: from the last to the first, each whose goals the others don't all gain.
use Rattle.std.proofs.Common.{◌≡◌, ℕ, ◌≤◌, Bool, true, false, cond, List, [], ◌∷◌, ◌++◌, refl, ap, ap₂, sym, ◌∙◌, subst, map, reverse, arith, append_assoc, append-nil}
use Rattle.std.proofs.lemmas.List.{reverse-append}
use Rattle.std.proofs.lemmas.List.Concat.{flat_map-append, flat_map-cons}
use Rattle.std.specs.List.{flat_map}
use Rattle.std.specs.Prelude.{slice_index}
use Rattle.chosen_tests.specs.Chosen.{has_new, staying}
use Rattle.chosen_tests.specs.Counting.{Counted, Settles, times}
use Rattle.chosen_tests.proofs.Tally.{counted_enough, times-append}

module _ {A : Type 0} (gain : A → List ℕ) where
  abbrev pub one_more : List ℕ → A → List A → List A
  one_more before t later = cond (has_new (before ++ flat_map gain later) (gain t)) (t ∷ later) later

  -- the same, where it is known what stays of those after these
  abbrev pub settled : List ℕ → List A → List A → List A
  settled before [] later = later
  settled before (t ∷ ts) later = one_more before t (settled (before ++ gain t) ts later)

  settled-all : (before : List ℕ) (ts : List A) → settled before ts [] ≡ staying gain before ts
  settled-all before [] = refl
  settled-all before (t ∷ ts) = ap (one_more before t) (settled-all (before ++ gain t) ts)

  settled-last : (before : List ℕ) (front : List A) (t : A) (later : List A)
      → settled before (front ++ t ∷ []) later ≡ settled before front (one_more (before ++ flat_map gain front) t later)
  settled-last before [] t later = ap (λ b. one_more b t later) (sym (append-nil before))
  settled-last before (f ∷ front) t later =
      ap (one_more before f) (settled-last (before ++ gain f) front t later
      ∙ ap (λ b. settled (before ++ gain f) front (one_more b t later)) (append_assoc before (gain f) (flat_map gain front)))

  -- `rest` are those that weren't looked at yet, and `found` those that stay, the last one first
  pub record Looked (all rest found : List A) (counts : List ℕ) : Type 0 where
    pub stay : settled [] rest (reverse found) ≡ staying gain [] all
    pub counted : Counted counts (flat_map gain rest ++ flat_map gain (reverse found))

  pub none_looked : (all : List A) (counts : List ℕ) → Counted counts (flat_map gain all) → Looked all all [] counts
  none_looked all counts c = record { stay = settled-all [] all; counted = subst (λ (ns : List ℕ). Counted counts ns) (sym (append-nil (flat_map gain all))) c }

  abbrev others : List A → List A → List ℕ
  others front found = flat_map gain front ++ flat_map gain (reverse found)

  without : (front : List A) (t : A) (found : List A) (x : ℕ) → times x (others (front ++ t ∷ []) found) ≡ times x (others front found ++ gain t)
  without front t found x =
      let ends : flat_map gain (front ++ t ∷ []) ≡ flat_map gain front ++ (gain t ++ []) = flat_map-append gain front (t ∷ []) in
      omega (
        arith,
        times-append x (flat_map gain (front ++ t ∷ [])) (flat_map gain (reverse found)),
        ap (times x) ends,
        times-append x (flat_map gain front) (gain t ++ []),
        ap (times x) (append-nil (gain t)),
        times-append x (others front found) (gain t),
        times-append x (flat_map gain front) (flat_map gain (reverse found)),
      )

  taken_out : (rest front : List A) (t : A) (found : List A) (counts : List ℕ) → rest ≡ front ++ t ∷ [] → Counted counts (others rest found) → Counted counts (others front found ++ gain t)
  taken_out rest front t found counts is c = record { each = λ x. c.each x ∙ ap (λ r. times x (others r found)) is ∙ without front t found x }

  turned : (found : List A) (t : A) → reverse (found ++ t ∷ []) ≡ t ∷ reverse found
  turned found t = reverse-append found (t ∷ [])

  with : (front : List A) (t : A) (found : List A) (x : ℕ) → times x (others front found ++ gain t) ≡ times x (flat_map gain front ++ flat_map gain (t ∷ reverse found))
  with front t found x =
      omega (
        arith,
        times-append x (others front found) (gain t),
        times-append x (flat_map gain front) (flat_map gain (reverse found)),
        times-append x (flat_map gain front) (flat_map gain (t ∷ reverse found)),
        ap (times x) (flat_map-cons gain t (reverse found)),
        times-append x (gain t) (flat_map gain (reverse found)),
      )

  pub enough : (all rest front : List A) (t : A) (found : List A) (counts : List ℕ) → rest ≡ front ++ t ∷ [] → Looked all rest found counts → (x : ℕ) → times x (gain t) ≤ slice_index counts x
  enough all rest front t found counts is l = counted_enough counts (others front found) (gain t) (taken_out rest front t found counts is l.counted)

  stays_as : (all rest front : List A) (t : A) (found : List A) (counts new : List ℕ) → rest ≡ front ++ t ∷ [] → Settles counts new (gain t) true
      → Looked all rest found counts → Looked all front (found ++ t ∷ []) new
  stays_as all rest front t found counts new is s l =
      let c = taken_out rest front t found counts is l.counted in
      record {
        stay = ap (settled [] front) (turned found t ∙ ap (λ b. cond b (t ∷ reverse found) (reverse found)) (s.answer (others front found) c))
            ∙ sym (settled-last [] front t (reverse found)) ∙ ap (λ r. settled [] r (reverse found)) (sym is) ∙ l.stay;
        counted = record { each = λ x. (s.left (others front found) c).each x ∙ with front t found x ∙ ap (λ f. times x (flat_map gain front ++ flat_map gain f)) (sym (turned found t)) };
      }

  goes_as : (all rest front : List A) (t : A) (found : List A) (counts new : List ℕ) → rest ≡ front ++ t ∷ [] → Settles counts new (gain t) false
      → Looked all rest found counts → Looked all front found new
  goes_as all rest front t found counts new is s l =
      let c = taken_out rest front t found counts is l.counted in
      record {
        stay = ap (λ b. settled [] front (cond b (t ∷ reverse found) (reverse found))) (s.answer (others front found) c)
            ∙ sym (settled-last [] front t (reverse found)) ∙ ap (λ r. settled [] r (reverse found)) (sym is) ∙ l.stay;
        counted = s.left (others front found) c;
      }

  settles_as : (counts new xs : List ℕ) (t : A) (needed b : Bool) → xs ≡ gain t → needed ≡ b → Settles counts new xs needed → Settles counts new (gain t) b
  settles_as counts new xs t needed b same is s = subst (λ (ns : List ℕ). Settles counts new ns b) same (subst (λ (n : Bool). Settles counts new xs n) is s)

  pub one_stays : (all rest front : List A) (t : A) (found : List A) (counts new xs : List ℕ) (needed : Bool) → rest ≡ front ++ t ∷ [] → xs ≡ gain t → needed ≡ true → Settles counts new xs needed
      → Looked all rest found counts → Looked all front (found ++ t ∷ []) new
  one_stays all rest front t found counts new xs needed is same needs s l = stays_as all rest front t found counts new is (settles_as counts new xs t needed true same needs s) l

  pub one_goes : (all rest front : List A) (t : A) (found : List A) (counts new xs : List ℕ) (needed : Bool) → rest ≡ front ++ t ∷ [] → xs ≡ gain t → needed ≡ false → Settles counts new xs needed
      → Looked all rest found counts → Looked all front found new
  one_goes all rest front t found counts new xs needed is same needless s l = goes_as all rest front t found counts new is (settles_as counts new xs t needed false same needless s) l

  pub all_looked : (all rest found : List A) (counts : List ℕ) → rest ≡ [] → Looked all rest found counts → reverse found ≡ staying gain [] all
  all_looked all rest found counts none l = ap (λ r. settled [] r (reverse found)) (sym none) ∙ l.stay

-- what is made of those that stay
module _ {A B : Type 0} (gain : A → List ℕ) (gained : B → List ℕ) (made : A → B) (same : (t : A) → gained (made t) ≡ gain t) where
  gains-made : (ts : List A) → flat_map gained (map made ts) ≡ flat_map gain ts
  gains-made [] = refl
  gains-made (t ∷ ts) = ap₂ (λ g gs. g ++ gs) (same t) (gains-made ts)

  map-one : (b : Bool) (t : A) (later : List A) → cond b (made t ∷ map made later) (map made later) ≡ map made (cond b (t ∷ later) later)
  map-one true t later = refl
  map-one false t later = refl

  pub stay_made : (before : List ℕ) (ts : List A) → staying gained before (map made ts) ≡ map made (staying gain before ts)
  stay_made before [] = refl
  stay_made before (t ∷ ts) =
      let later : List A = staying gain (before ++ gain t) ts in
      ap (one_more gained before (made t)) (ap (λ g. staying gained (before ++ g) (map made ts)) (same t) ∙ stay_made (before ++ gain t) ts)
      ∙ ap₂ (λ gs g. cond (has_new (before ++ gs) g) (made t ∷ map made later) (map made later)) (gains-made later) (same t)
      ∙ map-one (has_new (before ++ flat_map gain later) (gain t)) t later
