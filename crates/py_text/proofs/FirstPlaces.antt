-- Where a text is first, by what is known of each place.
use Rattle.std.proofs.Common.{◌≡◌, ℕ, zero, suc, ◌<◌, ◌≤◌, Bool, true, false, cond, List, [], ◌∷◌, length, drop, refl, ap, ◌∙◌, Option, Some, None, arith}
use Rattle.std.specs.Option.{option_map}
use Rattle.py_meaning.specs.Texts.{begins_with, first_place}

-- the text is at a place
abbrev pub is_at : List ℕ → List ℕ → ℕ → Bool
is_at part text at = begins_with (drop at text) part

choose_yes : (b : Bool) (x y : Option ℕ) → b ≡ true → cond b x y ≡ x
choose_yes true x y e = refl
choose_yes false x y e = cc

choose_no : (b : Bool) (x y : Option ℕ) → b ≡ false → cond b x y ≡ y
choose_no true x y e = cc
choose_no false x y e = refl

pub first_place_is : (part text : List ℕ) (at : ℕ) → at ≤ length text → ((k : ℕ) → k < at → is_at part text k ≡ false) → is_at part text at ≡ true → first_place part text ≡ Some at
first_place_is part [] zero within before here = choose_yes (begins_with [] part) (Some 0) None here
first_place_is part [] (suc at) within before here = absurd (omega arith)
first_place_is part (c ∷ text) zero within before here = choose_yes (begins_with (c ∷ text) part) (Some 0) (option_map suc (first_place part text)) here
first_place_is part (c ∷ text) (suc at) within before here =
    choose_no (begins_with (c ∷ text) part) (Some 0) (option_map suc (first_place part text)) (before 0 (omega arith))
    ∙ ap (option_map suc) (first_place_is part text at (omega arith) (λ k h. before (suc k) (omega arith)) here)

pub first_place_none : (part text : List ℕ) → ((k : ℕ) → k ≤ length text → is_at part text k ≡ false) → first_place part text ≡ None
first_place_none part [] never = choose_no (begins_with [] part) (Some 0) None (never 0 (omega arith))
first_place_none part (c ∷ text) never =
    choose_no (begins_with (c ∷ text) part) (Some 0) (option_map suc (first_place part text)) (never 0 (omega arith))
    ∙ ap (option_map suc) (first_place_none part text (λ k h. never (suc k) (omega arith)))
