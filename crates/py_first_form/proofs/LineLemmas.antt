use Rattle.std.proofs.Common.{◌≡◌, refl, sym, ap, ◌∙◌, ℕ, suc, ◌+◌, ◌≤◌, Bool, true, false, not, cond, ◌==◌, List, [], ◌∷◌, length, take, drop, arith}
use Rattle.std.specs.List.{onto_first}
use Rattle.std.proofs.lemmas.Bool.{eqb-true}
use Rattle.std.proofs.lemmas.List.{take_all as all_taken, drop_all as all_dropped}
use Rattle.py_language.specs.FirstForm.{lines_of}
use Rattle.py_first_form.specs.Cut.{to_feed, first_line}

-- ---- the first line of a text ends behind its first line feed

first-onto : (c : ℕ) (lines : List (List ℕ)) → first_line (onto_first c lines) ≡ c ∷ first_line lines
first-onto c [] = refl
first-onto c (line ∷ rest) = refl

rest-onto : (c : ℕ) (lines : List (List ℕ)) → drop 1 (onto_first c lines) ≡ drop 1 lines
rest-onto c [] = refl
rest-onto c (line ∷ rest) = refl

first_by : (t : Bool) (c : ℕ) (text : List ℕ) → (c == 10) ≡ t → first_line (lines_of text) ≡ take (to_feed text + 1) text
    → first_line (cond t ((10 ∷ []) ∷ lines_of text) (onto_first c (lines_of text))) ≡ take (cond (not t) (1 + to_feed text) 0 + 1) (c ∷ text)
first_by true c text e more = ap (λ x. x ∷ []) (sym (eqb-true c 10 e))
first_by false c text e more =
    let place : suc (to_feed text + 1) ≡ 1 + to_feed text + 1 = omega arith in
    first-onto c (lines_of text) ∙ ap (λ line. c ∷ line) more ∙ ap (λ n. take n (c ∷ text)) place

pub first_line-lines_of : (text : List ℕ) → first_line (lines_of text) ≡ take (to_feed text + 1) text
first_line-lines_of [] = refl
first_line-lines_of (c ∷ text) = first_by (c == 10) c text refl (first_line-lines_of text)

rest_by : (t : Bool) (c : ℕ) (text : List ℕ) → (c == 10) ≡ t → drop 1 (lines_of text) ≡ lines_of (drop (to_feed text + 1) text)
    → drop 1 (cond t ((10 ∷ []) ∷ lines_of text) (onto_first c (lines_of text))) ≡ lines_of (drop (cond (not t) (1 + to_feed text) 0 + 1) (c ∷ text))
rest_by true c text e more = refl
rest_by false c text e more =
    let place : suc (to_feed text + 1) ≡ 1 + to_feed text + 1 = omega arith in
    rest-onto c (lines_of text) ∙ more ∙ ap (λ n. lines_of (drop n (c ∷ text))) place

pub rest-lines_of : (text : List ℕ) → drop 1 (lines_of text) ≡ lines_of (drop (to_feed text + 1) text)
rest-lines_of [] = refl
rest-lines_of (c ∷ text) = rest_by (c == 10) c text refl (rest-lines_of text)

-- a cut at or behind the end
pub take_all : (text : List ℕ) (m n : ℕ) → length text ≤ m → length text ≤ n → take m text ≡ take n text
take_all text m n h k = all_taken m text h ∙ sym (all_taken n text k)

pub drop_all : (text : List ℕ) (m n : ℕ) → length text ≤ m → length text ≤ n → drop m text ≡ drop n text
drop_all text m n h k = all_dropped m text h ∙ sym (all_dropped n text k)
