-- The text of the suite is read back: its lines, and what they spell.
use Rattle.std.proofs.Common.{◌≡◌, refl, sym, ◌∙◌, ap, ap₂, ℕ, zero, suc, ◌+◌, ◌-◌, ◌/◌, ◌%◌, nat_lt, if◌then◌else◌, ◌≤◌, ◌<◌, ◌^◌, Bool, true, false, not, ◌&&◌, ◌==◌, cond, List, [], ◌∷◌, ◌++◌, length, take, drop, Option, Some, None, codes, decimal, slice_index, EachIndex, arith, append_assoc, append-nil, bytes_eq, length-append}
use Rattle.std.specs.List.{list_all, onto_first}
use Rattle.std.specs.Fmt.{digits, digits_onto, digit_glyph}
use Rattle.std.proofs.lemmas.List.Folds.{list_all-append}
use Rattle.std.proofs.Math.Seq.{take-append_seam, drop-append_seam}
use Rattle.py_language.specs.FirstForm.{lines_of, before, between}
use Rattle.pyn_model.specs.FirstModules.{is_one_line}
use Rattle.pyn_model.proofs.Booleans.{both, and_true, not_true, same_text}
use Rattle.pyn_model.proofs.Judging.{other_number}

-- ---- lines

onto : (t : Bool) (c : ℕ) (ls rest : List (List ℕ)) → t ≡ false → cond t ((10 ∷ []) ∷ rest) (onto_first c ls) ≡ onto_first c ls
onto t c ls rest e = rw e refl

-- a line up to its line feed is the first line
pub lines_of-cut : (line rest : List ℕ) → is_one_line line ≡ true → lines_of (line ++ (10 ∷ rest)) ≡ (line ++ (10 ∷ [])) ∷ lines_of rest
lines_of-cut [] rest e = refl
lines_of-cut (c ∷ line) rest e =
    let parts = both (not (c == 10)) (is_one_line line) e in
    onto _ c _ _ (not_true _ parts.0) ∙ ap (onto_first c) (lines_of-cut line rest parts.1)

pub one_line-append : (a b : List ℕ) → is_one_line a ≡ true → is_one_line b ≡ true → is_one_line (a ++ b) ≡ true
one_line-append a b e f = list_all-append (λ (c : ℕ). not (c == 10)) a b ∙ and_true _ _ e f

-- a line with its line feed: a beginning, a middle and an ending that ends the line
pub lines_of-parts : (start middle end rest : List ℕ) → is_one_line start ≡ true → is_one_line middle ≡ true → is_one_line end ≡ true
    → lines_of (start ++ middle ++ (end ++ (10 ∷ rest))) ≡ (start ++ middle ++ (end ++ (10 ∷ []))) ∷ lines_of rest
lines_of-parts start middle end rest s m e =
    ap lines_of (sym (append_assoc (start ++ middle) end (10 ∷ rest)))
    ∙ lines_of-cut (start ++ middle ++ end) rest (one_line-append (start ++ middle) end (one_line-append start middle s m) e)
    ∙ ap (λ line. line ∷ lines_of rest) (append_assoc (start ++ middle) end (10 ∷ []))

-- ---- what stands between

pub before-append : (end middle : List ℕ) → before end (middle ++ end) ≡ Some middle
before-append end middle =
    let n : length (middle ++ end) - length end ≡ length middle = let l = length-append middle end in omega (arith, l) in
    ap (λ k. cond (bytes_eq (drop k (middle ++ end)) end) (Some (take k (middle ++ end))) None) n
    ∙ ap (λ rest. cond (bytes_eq rest end) (Some (take (length middle) (middle ++ end))) None) (drop-append_seam middle end)
    ∙ ap (λ t. cond t (Some (take (length middle) (middle ++ end))) None) (same_text end)
    ∙ ap (λ x. Some x) (take-append_seam middle end)

-- ---- numerals have no line feed

glyph_stays : (d : ℕ) → (digit_glyph false d == 10) ≡ false
glyph_stays d = other_number (digit_glyph false d) 10 (λ e. glyph_high (nat_lt d 10) d e)
  where
    glyph_high : (t : Bool) (k : ℕ) → (if t then 48 + k else 87 + k) ≡ 10 → ⊥
    glyph_high true k e = omega (arith, e)
    glyph_high false k e = omega (arith, e)

negated : (t : Bool) → t ≡ false → not t ≡ true
negated t e = rw e refl

digits_stay : (k n : ℕ) (acc : List ℕ) → is_one_line acc ≡ true → is_one_line (digits_onto k 10 false n acc) ≡ true
digits_stay zero n acc e = e
digits_stay (suc k) n acc e =
    let more : is_one_line (digit_glyph false (n % 10) ∷ acc) ≡ true = and_true _ _ (negated _ (glyph_stays (n % 10))) e in
    chosen (n / 10 == 0) _ _ more (digits_stay k (n / 10) (digit_glyph false (n % 10) ∷ acc) more)
  where
    chosen : (t : Bool) (a b : List ℕ) → is_one_line a ≡ true → is_one_line b ≡ true → is_one_line (if t then a else b) ≡ true
    chosen true a b e f = e
    chosen false a b e f = f

pub one_line-decimal : (n : ℕ) → is_one_line (decimal n) ≡ true
unfolding digits
one_line-decimal n = digits_stay 64 n [] refl
