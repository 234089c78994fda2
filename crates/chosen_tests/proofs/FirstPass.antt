-- The first pass: from the first to the last, each that gains something new.
use Rattle.std.proofs.Common.{◌≡◌, ℕ, ◌+◌, ◌<◌, ◌≤◌, Bool, true, false, ◌&&◌, cond, List, [], ◌∷◌, ◌++◌, refl, ap, sym, ◌∙◌, subst, length, get_or, drop, map, append_assoc, append-nil}
use Rattle.std.proofs.lemmas.List.{drop_all, drop_more, flat_map_more}
use Rattle.std.specs.List.{flat_map}
use Rattle.chosen_tests.specs.Chosen.{gaining, has_new}
use Rattle.chosen_tests.specs.Counting.{Counted, Rose, lacks}
use Rattle.chosen_tests.proofs.Tally.{counted_more, lacks_new}

-- `made` is what is made of each that is taken: it gains the same
module _ {A B : Type 0} (gain : A → List ℕ) (may : A → Bool) (gained : B → List ℕ) (made : A → B) (same : (t : A) → gained (made t) ≡ gain t) where
  -- so many of them looked at
  pub record Passed (all : List A) (i : ℕ) (done : List B) (counts : List ℕ) : Type 0 where
    pub taken : done ++ map made (gaining gain may (flat_map gained done) (drop i all)) ≡ map made (gaining gain may [] all)
    pub counted : Counted counts (flat_map gained done)

  pub none_passed : (all : List A) (counts : List ℕ) → Counted counts [] → Passed all 0 [] counts
  none_passed all counts c = record { taken = refl; counted = c }

  by_test : (covered : List ℕ) (t : A) (ts : List A) (b : Bool) → (may t && has_new covered (gain t)) ≡ b
      → gaining gain may covered (t ∷ ts) ≡ cond b (t ∷ gaining gain may (covered ++ gain t) ts) (gaining gain may covered ts)
  by_test covered t ts b h = ap (λ b. cond b (t ∷ gaining gain may (covered ++ gain t) ts) (gaining gain may covered ts)) h

  one_dropped : (all : List A) (i : ℕ) (t : A) → i < length all → t ≡ get_or all i t → drop i all ≡ t ∷ drop (i + 1) all
  one_dropped all i t less is = drop_more all i t less ∙ ap (λ x. x ∷ drop (i + 1) all) (sym is)

  wanted_new : (done : List B) (counts : List ℕ) (t : A) (b : Bool) → Counted counts (flat_map gained done) → (may t && lacks counts (gain t)) ≡ b → (may t && has_new (flat_map gained done) (gain t)) ≡ b
  wanted_new done counts t b c h = ap (λ n. may t && n) (sym (lacks_new counts (flat_map gained done) c (gain t))) ∙ h

  pub one_taken : (all : List A) (i : ℕ) (t : A) (done : List B) (counts new : List ℕ) → i < length all → t ≡ get_or all i t → (may t && lacks counts (gain t)) ≡ true
      → Rose counts new (gain t) → Passed all i done counts → Passed all (i + 1) (done ++ made t ∷ []) new
  one_taken all i t done counts new less is wanted rose p =
      let rest : List A = drop (i + 1) all in
      let covered : List ℕ = flat_map gained done in
      let more : flat_map gained (done ++ made t ∷ []) ≡ covered ++ gain t = sym (flat_map_more gained [] done (made t)) ∙ ap (λ g. covered ++ g) (same t) in
      record {
        taken = append_assoc done (made t ∷ []) (map made (gaining gain may (flat_map gained (done ++ made t ∷ [])) rest))
            ∙ ap (λ c. done ++ made t ∷ map made (gaining gain may c rest)) more
            ∙ ap (λ ts. done ++ map made ts) (sym (by_test covered t rest true (wanted_new done counts t true p.counted wanted)))
            ∙ ap (λ ts. done ++ map made (gaining gain may covered ts)) (sym (one_dropped all i t less is))
            ∙ p.taken;
        counted = subst (λ (ns : List ℕ). Counted new ns) (sym more) (counted_more counts new covered (gain t) p.counted rose);
      }

  pub one_left : (all : List A) (i : ℕ) (t : A) (done : List B) (counts : List ℕ) → i < length all → t ≡ get_or all i t → (may t && lacks counts (gain t)) ≡ false
      → Passed all i done counts → Passed all (i + 1) done counts
  one_left all i t done counts less is wanted p =
      let covered : List ℕ = flat_map gained done in
      record {
        taken = ap (λ ts. done ++ map made ts) (sym (by_test covered t (drop (i + 1) all) false (wanted_new done counts t false p.counted wanted)))
            ∙ ap (λ ts. done ++ map made (gaining gain may covered ts)) (sym (one_dropped all i t less is))
            ∙ p.taken;
        counted = p.counted;
      }

  pub all_passed : (all : List A) (i : ℕ) (done : List B) (counts : List ℕ) → length all ≤ i → Passed all i done counts → done ≡ map made (gaining gain may [] all)
  all_passed all i done counts past p =
      sym (append-nil done) ∙ ap (λ ts. done ++ map made (gaining gain may (flat_map gained done) ts)) (sym (drop_all i all past)) ∙ p.taken
