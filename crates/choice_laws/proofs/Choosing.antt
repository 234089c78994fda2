-- What is chosen gains all that may be gained, and each of it something that the others lack: for things of any kind.
use Rattle.std.proofs.Common.{◌≡◌, ℕ, Bool, true, false, ◌&&◌, ◌||◌, cond, List, [], ◌∷◌, ◌++◌, refl, ap, sym, ◌∙◌, subst, append_assoc}
use Rattle.std.proofs.lemmas.Bool.{and_from, and_parts, both_ways, false_from_ne_true, or_left}
use Rattle.std.specs.List.{flat_map, list_all, list_any}
use Rattle.chosen_tests.specs.Chosen.{chosen_by, gaining, has_new, holds, staying}
use Rattle.choice_laws.proofs.Covered.{holds-append, is_new, none_new, one_new, or_absorbs, or_assoc, or_more}

module _ {A : Type 0} (gain : A → List ℕ) where
  -- whether one of these gains a number
  abbrev pub gained : ℕ → List A → Bool
  gained n ts = list_any (λ t. holds (gain t) n) ts

  pub gained-holds : (n : ℕ) (ts : List A) → gained n ts ≡ holds (flat_map gain ts) n
  gained-holds n [] = refl
  gained-holds n (t ∷ ts) = ap (λ b. holds (gain t) n || b) (gained-holds n ts) ∙ sym (holds-append (gain t) (flat_map gain ts) n)

  covered_or : (covered : List ℕ) (n : ℕ) (ts : List A) → holds (covered ++ flat_map gain ts) n ≡ (holds covered n || gained n ts)
  covered_or covered n ts = holds-append covered (flat_map gain ts) n ∙ ap (λ b. holds covered n || b) (sym (gained-holds n ts))

  covered_one : (covered : List ℕ) (n : ℕ) (t : A) (rest : Bool) → (holds (covered ++ gain t) n || rest) ≡ (holds covered n || (holds (gain t) n || rest))
  covered_one covered n t rest = ap (λ b. b || rest) (holds-append covered (gain t) n) ∙ or_assoc (holds covered n) (holds (gain t) n) rest

  -- ---- nothing is missing

  module _ (may : A → Bool) where
    abbrev may_gain : ℕ → List A → Bool
    may_gain n ts = list_any (λ t. may t && holds (gain t) n) ts

    by_first : (n : ℕ) (covered : List ℕ) (t : A) (with without : List A) (rest : Bool)
        → (holds (covered ++ gain t) n || gained n with) ≡ (holds (covered ++ gain t) n || rest) → (holds covered n || gained n without) ≡ (holds covered n || rest)
        → (is new : Bool) → has_new covered (gain t) ≡ new
        → (holds covered n || gained n (cond (is && new) (t ∷ with) without)) ≡ (holds covered n || ((is && holds (gain t) n) || rest))
    by_first n covered t with without rest more same true true h = sym (covered_one covered n t (gained n with)) ∙ more ∙ covered_one covered n t rest
    by_first n covered t with without rest more same true false h =
        same ∙ sym (or_absorbs (holds covered n) (holds (gain t) n) rest (λ is. or_left (holds covered n) rest (none_new covered (gain t) n h is)))
    by_first n covered t with without rest more same false new h = same

    after_first : (n : ℕ) (covered : List ℕ) (ts : List A) → (holds covered n || gained n (gaining gain may covered ts)) ≡ (holds covered n || may_gain n ts)
    after_first n covered [] = refl
    after_first n covered (t ∷ ts) =
        by_first n covered t (gaining gain may (covered ++ gain t) ts) (gaining gain may covered ts) (may_gain n ts)
        (after_first n (covered ++ gain t) ts) (after_first n covered ts) (may t) (has_new covered (gain t)) refl

  by_second : (n : ℕ) (before : List ℕ) (t : A) (later ts : List A) → (holds before n || (holds (gain t) n || gained n later)) ≡ (holds before n || (holds (gain t) n || gained n ts))
      → (new : Bool) → has_new (before ++ flat_map gain later) (gain t) ≡ new
      → (holds before n || gained n (cond new (t ∷ later) later)) ≡ (holds before n || (holds (gain t) n || gained n ts))
  by_second n before t later ts same true h = same
  by_second n before t later ts same false h =
      sym (or_absorbs (holds before n) (holds (gain t) n) (gained n later) (λ is. sym (covered_or before n later) ∙ none_new (before ++ flat_map gain later) (gain t) n h is)) ∙ same

  after_second : (n : ℕ) (before : List ℕ) (ts : List A) → (holds before n || gained n (staying gain before ts)) ≡ (holds before n || gained n ts)
  after_second n before [] = refl
  after_second n before (t ∷ ts) =
      let later = staying gain (before ++ gain t) ts in
      by_second n before t later ts (sym (covered_one before n t (gained n later)) ∙ after_second n (before ++ gain t) ts ∙ covered_one before n t (gained n ts)) (has_new (before ++ flat_map gain later) (gain t)) refl

  pub none_missing : (may : A → Bool) (n : ℕ) (ts : List A) → gained n (chosen_by gain may ts) ≡ list_any (λ t. may t && holds (gain t) n) ts
  none_missing may n ts = after_second n [] (gaining gain may [] ts) ∙ after_first may n [] ts

  -- ---- each may be taken

  module _ (may : A → Bool) where
    may_first : (t : A) (with without : List A) → list_all may with ≡ true → list_all may without ≡ true → (is new : Bool) → may t ≡ is
        → list_all may (cond (is && new) (t ∷ with) without) ≡ true
    may_first t with without more same true true h = and_from (may t) (list_all may with) h more
    may_first t with without more same true false h = same
    may_first t with without more same false new h = same

    may_gaining : (covered : List ℕ) (ts : List A) → list_all may (gaining gain may covered ts) ≡ true
    may_gaining covered [] = refl
    may_gaining covered (t ∷ ts) =
        may_first t (gaining gain may (covered ++ gain t) ts) (gaining gain may covered ts) (may_gaining (covered ++ gain t) ts) (may_gaining covered ts)
        (may t) (has_new covered (gain t)) refl

    may_second : (t : A) (later : List A) → may t ≡ true → list_all may later ≡ true → (new : Bool) → list_all may (cond new (t ∷ later) later) ≡ true
    may_second t later is more true = and_from (may t) (list_all may later) is more
    may_second t later is more false = more

    may_staying : (before : List ℕ) (ts : List A) → list_all may ts ≡ true → list_all may (staying gain before ts) ≡ true
    may_staying before [] all = refl
    may_staying before (t ∷ ts) all =
        let parts = and_parts (may t) (list_all may ts) all in
        let later = staying gain (before ++ gain t) ts in
        may_second t later parts.0 (may_staying (before ++ gain t) ts parts.1) (has_new (before ++ flat_map gain later) (gain t))

    pub each_may : (ts : List A) → list_all may (chosen_by gain may ts) ≡ true
    each_may ts = may_staying [] (gaining gain may [] ts) (may_gaining [] ts)

  -- ---- each is needed

  abbrev Needed : List ℕ → List A → Type 0
  Needed before all = (front : List A) (t : A) (back : List A) → all ≡ front ++ t ∷ back → has_new (before ++ flat_map gain (front ++ back)) (gain t) ≡ true

  -- what is new to more is new to fewer
  new_to_fewer : (before : List ℕ) (s t : A) (others : List A) → has_new ((before ++ gain s) ++ flat_map gain others) (gain t) ≡ true → has_new (before ++ flat_map gain others) (gain t) ≡ true
  new_to_fewer before s t others h =
      let new = one_new ((before ++ gain s) ++ flat_map gain others) (gain t) h in
      let n = new.0 in
      let apart : ((holds before n || holds (gain s) n) || gained n others) ≡ false =
      sym (covered_or (before ++ gain s) n others ∙ ap (λ b. b || gained n others) (holds-append before (gain s) n)) ∙ new.2 in
      is_new (before ++ flat_map gain others) (gain t) n new.1
      (false_from_ne_true (holds (before ++ flat_map gain others) n) (λ is. both_ways ((holds before n || holds (gain s) n) || gained n others) apart
      (or_more (holds before n) (holds (gain s) n) (gained n others) (sym (covered_or before n others) ∙ is))))

  one_stays : (before : List ℕ) (s : A) (later : List A) → Needed (before ++ gain s) later → has_new (before ++ flat_map gain later) (gain s) ≡ true → Needed before (s ∷ later)
  one_stays before s later rest new [] t back is =
      let same : s ≡ t = cc in
      let all : later ≡ back = cc in
      subst (λ u. has_new (before ++ flat_map gain back) (gain u) ≡ true) same (subst (λ us. has_new (before ++ flat_map gain us) (gain s) ≡ true) all new)
  one_stays before s later rest new (f ∷ front) t back is =
      let same : s ≡ f = cc in
      let all : later ≡ front ++ t ∷ back = cc in
      subst (λ u. has_new (before ++ (gain u ++ flat_map gain (front ++ back))) (gain t) ≡ true) same
      (subst (λ covered. has_new covered (gain t) ≡ true) (append_assoc before (gain s) (flat_map gain (front ++ back))) (rest front t back all))

  by_need : (before : List ℕ) (s : A) (later : List A) → Needed (before ++ gain s) later → (new : Bool) → has_new (before ++ flat_map gain later) (gain s) ≡ new
      → Needed before (cond new (s ∷ later) later)
  by_need before s later rest true h = one_stays before s later rest h
  by_need before s later rest false h = λ front t back is. new_to_fewer before s t (front ++ back) (rest front t back is)

  none_stays : (before : List ℕ) → Needed before []
  none_stays before [] t back is = absurd (cc)
  none_stays before (f ∷ front) t back is = absurd (cc)

  each_stays : (before : List ℕ) (ts : List A) → Needed before (staying gain before ts)
  each_stays before [] = none_stays before
  each_stays before (s ∷ ts) =
      let later = staying gain (before ++ gain s) ts in
      by_need before s later (each_stays (before ++ gain s) ts) (has_new (before ++ flat_map gain later) (gain s)) refl

  pub each_needed : (may : A → Bool) (ts front : List A) (t : A) (back : List A) → chosen_by gain may ts ≡ front ++ t ∷ back → has_new (flat_map gain (front ++ back)) (gain t) ≡ true
  each_needed may ts = each_stays [] (gaining gain may [] ts)
