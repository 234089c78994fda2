-- Repetition, with one more turn at the end.
use Rattle.std.proofs.Common.{◌≡◌, ℕ, zero, suc, ◌+◌, List, [], ◌∷◌, ◌++◌, length, refl, ap, sym, ◌∙◌, append-nil, append_assoc, arith}
use Rattle.std.specs.List.{repeat}

turned : {A : Type 0} (n : ℕ) (xs : List A) → repeat n xs ++ xs ≡ repeat (suc n) xs
turned zero xs = sym (append-nil xs)
turned (suc n) xs = append_assoc xs (repeat n xs) xs ∙ ap (λ l. xs ++ l) (turned n xs)

pub repeat_one_more : {A : Type 0} (n : ℕ) (xs : List A) → repeat (n + 1) xs ≡ repeat n xs ++ xs
repeat_one_more n xs = let more : n + 1 ≡ suc n = omega arith in ap (λ k. repeat k xs) more ∙ sym (turned n xs)

pub repeat_nothing : {A : Type 0} (n : ℕ) (xs : List A) → length xs ≡ 0 → repeat n xs ≡ []
repeat_nothing zero xs e = refl
repeat_nothing (suc n) [] e = repeat_nothing n [] e
repeat_nothing (suc n) (x ∷ xs) e = absurd (omega arith)

pub ruleset turns = (repeat_one_more, repeat_nothing)
