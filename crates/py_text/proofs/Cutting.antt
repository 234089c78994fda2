-- Texts cut in pieces and words.
use Rattle.std.proofs.Common.{◌≡◌, ℕ, zero, suc, ◌+◌, ◌<◌, ◌≤◌, List, [], ◌∷◌, ◌++◌, length, take, drop, refl, sym, ap, ◌∙◌, Option, Some, None, arith, length-drop, append_assoc}
use Rattle.py_meaning.specs.Texts.{first_place, pieces, pieces_within, cut_once}

-- A text that isn't empty is nowhere in the empty text.
pub nowhere_in_empty : (c : ℕ) (part : List ℕ) → first_place (c ∷ part) [] ≡ None
nowhere_in_empty c part = refl

cut_same : (f g : List ℕ → List (List ℕ)) (size : ℕ) (text : List ℕ) (at : Option ℕ) → ((k : ℕ) → f (drop (k + size) text) ≡ g (drop (k + size) text)) → cut_once f size text at ≡ cut_once g size text at
cut_same f g size text None same = refl
cut_same f g size text (Some at) same = ap (λ others. take at text ∷ others) (same at)

-- with a bound of the text's length or more there are the same pieces
pub pieces_enough : (n m : ℕ) (part text : List ℕ) → 0 < length part → length text ≤ n → length text ≤ m → pieces_within n part text ≡ pieces_within m part text
pieces_enough zero zero part text filled a b = refl
pieces_enough zero (suc m) [] text filled a b = absurd (omega arith)
pieces_enough zero (suc m) (c ∷ part) [] filled a b = refl
pieces_enough zero (suc m) (c ∷ part) (d ∷ text) filled a b = absurd (omega arith)
pieces_enough (suc n) zero [] text filled a b = absurd (omega arith)
pieces_enough (suc n) zero (c ∷ part) [] filled a b = refl
pieces_enough (suc n) zero (c ∷ part) (d ∷ text) filled a b = absurd (omega arith)
pieces_enough (suc n) (suc m) part text filled a b =
    cut_same (pieces_within n part) (pieces_within m part) (length part) text (first_place part text)
    (λ k. pieces_enough n m part (drop (k + length part) text) filled (omega (arith, length-drop (k + length part) text)) (omega (arith, length-drop (k + length part) text)))

pub pieces_none : (part text : List ℕ) → 0 < length part → first_place part text ≡ None → pieces part text ≡ text ∷ []
unfolding pieces
pieces_none part [] filled none = refl
pieces_none part (c ∷ text) filled none = ap (cut_once (pieces_within (length text) part) (length part) (c ∷ text)) none

pub pieces_some : (part text : List ℕ) (at : ℕ) → 0 < length part → first_place part text ≡ Some at → pieces part text ≡ take at text ∷ pieces part (drop (at + length part) text)
unfolding pieces
pieces_some [] text at filled found = absurd (omega arith)
pieces_some (c ∷ part) [] at filled found = cc
pieces_some (c ∷ part) (d ∷ text) at filled found =
    ap (cut_once (pieces_within (length text) (c ∷ part)) (length (c ∷ part)) (d ∷ text)) found
    ∙ ap (λ others. take at (d ∷ text) ∷ others)
    (pieces_enough (length text) (length (drop (at + length (c ∷ part)) (d ∷ text))) (c ∷ part) (drop (at + length (c ∷ part)) (d ∷ text)) filled
    (omega (arith, length-drop (at + length (c ∷ part)) (d ∷ text))) (omega arith))

pub next_piece : (part rest : List ℕ) (made whole : List (List ℕ)) (at : ℕ) → 0 < length part → first_place part rest ≡ Some at → made ++ pieces part rest ≡ whole → (made ++ take at rest ∷ []) ++ pieces part (drop (at + length part) rest) ≡ whole
next_piece part rest made whole at filled found so_far =
    append_assoc made (take at rest ∷ []) (pieces part (drop (at + length part) rest))
    ∙ ap (λ others. made ++ others) (sym (pieces_some part rest at filled found))
    ∙ so_far

-- the same, as the code makes the piece and what is after it
pub next_piece_by : (part rest : List ℕ) (made : List (List ℕ)) {next whole : List (List ℕ)} {piece rest_after : List ℕ} (at : ℕ) → 0 < length part → Some at ≡ first_place part rest → made ++ pieces part rest ≡ whole → next ≡ made ++ piece ∷ [] → piece ≡ take at rest → rest_after ≡ drop (at + length part) rest → next ++ pieces part rest_after ≡ whole
next_piece_by part rest made {next} {whole} {piece} {rest_after} at filled found so_far e before after =
    rw (e, before, after) (next_piece part rest made whole at filled (sym found) so_far)

pub the_last : (part rest : List ℕ) (made : List (List ℕ)) {next whole : List (List ℕ)} {piece : List ℕ} → 0 < length part → None ≡ first_place part rest → made ++ pieces part rest ≡ whole → next ≡ made ++ piece ∷ [] → piece ≡ rest → next ≡ whole
the_last part rest made {next} {whole} {piece} filled none so_far e all =
    rw (e, all) (ap (λ others. made ++ others) (sym (pieces_none part rest filled (sym none))) ∙ so_far)

pub shorter : (part rest rest_after : List ℕ) (at : ℕ) → 0 < length part → at + length part ≤ length rest → rest_after ≡ drop (at + length part) rest → length rest_after < length rest
shorter part rest rest_after at filled within e = omega (arith, ap length e, length-drop (at + length part) rest)
