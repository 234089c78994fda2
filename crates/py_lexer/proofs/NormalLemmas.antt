-- The text as it is read, made in one pass.
use Rattle.std.proofs.Common.{◌≡◌, ◌∙◌, sym, ap, refl, ℕ, suc, ◌+◌, ◌-◌, ◌≤◌, Bool, true, false, cond, ◌&&◌, ◌||◌, not, List, [], ◌∷◌, ◌++◌, length, append_assoc, drop, arith, length-append, length-drop}
use Rattle.std.specs.Prelude.{◌==◌, slice_get, Some}
use Rattle.std.specs.List.{list_any}
use Rattle.py_language.specs.TokensCharacters.{begins, has_order_mark, without_order_mark, missing_end, with_line_feeds, lines_of}

pub missing_last : (text : List ℕ) (b : ℕ) → slice_get text (length text - 1) ≡ Some b → missing_end text ≡ cond (not (b == 10)) (10 ∷ []) []
missing_last [] b e = absurd (cc)
missing_last (x ∷ []) b e = let is : x ≡ b = cc in last_by (x == 10) ∙ ap (λ y. cond {A = List ℕ} (not (y == 10)) (10 ∷ []) []) is
  where
    last_by : (v : Bool) → cond {A = List ℕ} v [] (10 ∷ []) ≡ cond {A = List ℕ} (not v) (10 ∷ []) []
    last_by true = refl
    last_by false = refl
missing_last (x ∷ y ∷ ys) b e = let n : suc (suc (length ys)) - 1 ≡ suc (suc (length ys) - 1) = omega arith in missing_last (y ∷ ys) b (ap (slice_get (x ∷ y ∷ ys)) (sym n) ∙ e)

-- ---- a byte more

pub vanish_step : (all rest more t : List ℕ) (b : ℕ) (x : List ℕ) → rest ≡ b ∷ more → (b == 13 && begins (λ c. c == 10) (more ++ t)) ≡ true → all ++ with_line_feeds (rest ++ t) ≡ x → all ++ with_line_feeds (more ++ t) ≡ x
vanish_step all rest more t b x e v same =
    sym (ap (λ ys. all ++ with_line_feeds (ys ++ t)) e ∙ ap (λ w. all ++ cond w (with_line_feeds (more ++ t)) (b ∷ with_line_feeds (more ++ t))) v) ∙ same

pub stay_step : (all all' rest more t : List ℕ) (b : ℕ) (x : List ℕ) → rest ≡ b ∷ more → (b == 13 && begins (λ c. c == 10) (more ++ t)) ≡ false → all' ≡ all ++ (b ∷ []) → all ++ with_line_feeds (rest ++ t) ≡ x → all' ++ with_line_feeds (more ++ t) ≡ x
stay_step all all' rest more t b x e v is same =
    ap (λ ys. ys ++ with_line_feeds (more ++ t)) is
    ∙ (append_assoc all (b ∷ []) (with_line_feeds (more ++ t))
    ∙ (sym (ap (λ ys. all ++ with_line_feeds (ys ++ t)) e ∙ ap (λ w. all ++ cond w (with_line_feeds (more ++ t)) (b ∷ with_line_feeds (more ++ t))) v) ∙ same))

-- a text without carriage returns
no_return : (xs t : List ℕ) → list_any (λ c. c == 13) xs ≡ false → with_line_feeds (xs ++ t) ≡ xs ++ with_line_feeds t
no_return [] t e = refl
no_return (x ∷ xs) t e = plain_by (x == 13) e (λ f. no_return xs t f)
  where
    plain_by : (v : Bool) → (v || list_any (λ c. c == 13) xs) ≡ false → (list_any (λ c. c == 13) xs ≡ false → with_line_feeds (xs ++ t) ≡ xs ++ with_line_feeds t)
        → cond (v && begins (λ c. c == 10) (xs ++ t)) (with_line_feeds (xs ++ t)) (x ∷ with_line_feeds (xs ++ t)) ≡ x ∷ (xs ++ with_line_feeds t)
    plain_by true f ih = absurd (cc)
    plain_by false f ih = ap (λ ys. x ∷ ys) (ih f)

pub copied : (text all : List ℕ) (lacks : Bool) → false ≡ list_any (λ c. c == 13) text → all ≡ text → all ++ cond lacks (10 ∷ []) [] ≡ with_line_feeds (text ++ cond lacks (10 ∷ []) [])
copied text all lacks e is = ap (λ ys. ys ++ cond lacks (10 ∷ []) []) is ∙ sym (no_return text (cond lacks (10 ∷ []) []) (sym e) ∙ end_by lacks)
  where
    end_by : (v : Bool) → text ++ with_line_feeds (cond v (10 ∷ []) []) ≡ text ++ cond v (10 ∷ []) []
    end_by true = refl
    end_by false = refl

-- ---- the whole text

pub lines_are : (text body : List ℕ) (lacks : Bool) (all : List ℕ) → body ≡ without_order_mark text → missing_end body ≡ cond lacks (10 ∷ []) [] → all ≡ with_line_feeds (body ++ cond lacks (10 ∷ []) []) → all ≡ lines_of text
unfolding lines_of
lines_are text body lacks all e m is = is ∙ (ap (λ t. with_line_feeds (body ++ t)) (sym m) ∙ ap (λ ys. with_line_feeds (ys ++ missing_end ys)) e)

feeds_fit : (xs : List ℕ) → length (with_line_feeds xs) ≤ length xs
feeds_fit [] = omega arith
feeds_fit (b ∷ bs) = fit_by (b == 13 && begins (λ c. c == 10) bs) (feeds_fit bs)
  where
    fit_by : (v : Bool) → length (with_line_feeds bs) ≤ length bs → length (cond v (with_line_feeds bs) (b ∷ with_line_feeds bs)) ≤ suc (length bs)
    fit_by true le = omega arith
    fit_by false le = omega arith

end_fits : (xs : List ℕ) → length (missing_end xs) ≤ 1
end_fits [] = omega arith
end_fits (x ∷ []) = fits_by (x == 10)
  where
    fits_by : (v : Bool) → length (cond {A = List ℕ} v [] (10 ∷ [])) ≤ 1
    fits_by true = omega arith
    fits_by false = omega arith
end_fits (x ∷ y ∷ xs) = end_fits (y ∷ xs)

mark_fits : (v : Bool) (text : List ℕ) → length (cond v (drop 3 text) text) ≤ length text
mark_fits true text = omega (arith, length-drop 3 text)
mark_fits false text = omega arith

pub lines_fit : (text : List ℕ) → length (lines_of text) ≤ length text + 1
unfolding lines_of
lines_fit text =
    let body = without_order_mark text in
    omega (arith, feeds_fit (body ++ missing_end body), length-append body (missing_end body), end_fits body, mark_fits (has_order_mark text) text)
