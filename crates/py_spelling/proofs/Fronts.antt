-- When a piece stays the longest front, whatever follows.
use Rattle.std.proofs.Common.{◌≡◌, ◌∙◌, ap, refl, ℕ, zero, suc, ◌+◌, ◌-◌, ◌<◌, ◌≤◌, true, false, List, [], ◌∷◌, ◌++◌, length, take, drop, arith, length-append}
use Rattle.std.proofs.Math.Seq.{take-append-add, take-append_seam, drop-append_seam}
use Rattle.py_language.specs.TokensCharacters.{is_quote}
use Rattle.py_language.specs.TokensPieces.{spells, longest, piece_len, pieces_behind}
use Rattle.py_spelling.proofs.Longest.{longest_found}

-- nothing that begins with the piece and d spells anything
abbrev pub Ends : List ℕ → ℕ → Type 0
Ends piece d = (more : List ℕ) → spells (piece ++ d ∷ more) ≡ false

-- the text is empty, or its first character ends the piece
abbrev pub EndsAt : List ℕ → List ℕ → Type 0
EndsAt piece [] = Unit {0}
EndsAt piece (d ∷ more) = Ends piece d

above_by : (piece after : List ℕ) (k : ℕ) → EndsAt piece after → suc k ≤ length after → spells (piece ++ take (suc k) after) ≡ false
above_by piece [] k e le = absurd (omega arith)
above_by piece (d ∷ more) k e le = e (take k more)

above : (piece after : List ℕ) (n : ℕ) → EndsAt piece after → length piece < n → n ≤ length (piece ++ after) → spells (take n (piece ++ after)) ≡ false
above piece after n e lt le =
    let k = n - suc (length piece) in
    let is : n ≡ length piece + suc k = omega arith in
    let fits : suc k ≤ length after = omega (arith, length-append piece after) in
    ap (λ m. spells (take m (piece ++ after))) is ∙ ap spells (take-append-add piece after (suc k)) ∙ above_by piece after k e fits

-- THE GENERAL LEMMA: a front that spells something, and that ends where the others begin, is the longest front
pub longest_front : (c : ℕ) (cs after : List ℕ) → spells (c ∷ cs) ≡ true → EndsAt (c ∷ cs) after → longest (c ∷ (cs ++ after)) ≡ suc (length cs)
unfolding longest
longest_front c cs after here e =
    longest_found (suc (length (cs ++ after))) (c ∷ (cs ++ after)) (suc (length cs)) (omega arith) (omega (arith, length-append cs after))
    (ap (λ xs. spells (c ∷ xs)) (take-append_seam cs after) ∙ here)
    (λ n lt le. above (c ∷ cs) after n e lt le)

pub piece_front : (c : ℕ) (cs after : List ℕ) → is_quote c ≡ false → spells (c ∷ cs) ≡ true → EndsAt (c ∷ cs) after → piece_len c (cs ++ after) ≡ suc (length cs)
unfolding piece_len
piece_front c cs after q here e = rw (q, longest_front c cs after here e) refl

-- ---- a piece of known length is cut off

drop_behind : (n : ℕ) (xs : List ℕ) → pieces_behind n xs ≡ pieces_behind 0 (drop n xs)
drop_behind zero xs = refl
drop_behind (suc n) [] = refl
drop_behind (suc n) (x ∷ xs) = drop_behind n xs

pub piece_off : (c : ℕ) (cs after : List ℕ) → piece_len c (cs ++ after) ≡ suc (length cs) → pieces_behind 0 (c ∷ (cs ++ after)) ≡ (c ∷ cs) ∷ pieces_behind 0 after
piece_off c cs after e =
    let less : suc (length cs) - 1 ≡ length cs = omega arith in
    ap (λ n. take n (c ∷ (cs ++ after)) ∷ pieces_behind (n - 1) (cs ++ after)) e
    ∙ ap (λ n. (c ∷ take (length cs) (cs ++ after)) ∷ pieces_behind n (cs ++ after)) less
    ∙ ap (λ xs. (c ∷ xs) ∷ pieces_behind (length cs) (cs ++ after)) (take-append_seam cs after)
    ∙ ap (λ ps. (c ∷ cs) ∷ ps) (drop_behind (length cs) (cs ++ after) ∙ ap (pieces_behind 0) (drop-append_seam cs after))
