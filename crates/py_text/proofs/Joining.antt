-- Texts joined one after another.
use Rattle.std.proofs.Common.{◌≡◌, ℕ, ◌+◌, ◌*◌, ◌<◌, ◌⊎◌, inl, inr, Option, Some, None, List, [], ◌∷◌, ◌++◌, length, take, drop, get_or, refl, sym, ap, ◌∙◌, arith, length-append, append_assoc, append-nil}
use Rattle.std.specs.List.{flat_map}
use Rattle.std.proofs.lemmas.List.{at_drop_more}
use Rattle.py_meaning.specs.Texts.{first_place, joined, put_everywhere, replaced, pieces}
use Rattle.py_text.proofs.Cutting.{pieces_none, pieces_some}

-- texts that follow another one
abbrev pub following : List ℕ → List (List ℕ) → List ℕ
following between texts = flat_map (λ text. between ++ text) texts

pub following_more : (between : List ℕ) (texts : List (List ℕ)) (i : ℕ) (text : List ℕ) → i < length texts → text ≡ get_or texts i text → following between (drop i texts) ≡ between ++ (text ++ following between (drop (i + 1) texts))
following_more between texts i text within read =
    at_drop_more (following between) texts i text within
    ∙ ap (λ next. following between (next ∷ drop (i + 1) texts)) (sym read)
    ∙ append_assoc between text (following between (drop (i + 1) texts))

pub next_text : (between : List ℕ) (texts : List (List ℕ)) (i : ℕ) (text shown made : List ℕ) {next last whole : List ℕ} → i < length texts → text ≡ get_or texts i text → made ++ following between (drop i texts) ≡ whole → next ≡ made ++ between → shown ≡ text → last ≡ next ++ shown → last ++ following between (drop (i + 1) texts) ≡ whole
next_text between texts i text shown made {next} {last} {whole} within read so_far first_added same then_added =
    let rest = following between (drop (i + 1) texts) in
    rw (then_added, same, first_added)
    (append_assoc (made ++ between) text rest
    ∙ append_assoc made between (text ++ rest)
    ∙ ap (λ more. made ++ more) (sym (following_more between texts i text within read))
    ∙ so_far)

pub next_length : (between : List ℕ) (texts : List (List ℕ)) (i : ℕ) (text : List ℕ) → i < length texts → text ≡ get_or texts i text → length (following between (drop i texts)) ≡ length between + length text + length (following between (drop (i + 1) texts))
next_length between texts i text within read =
    let rest = following between (drop (i + 1) texts) in
    ap length (following_more between texts i text within read) ∙ omega (arith, length-append between (text ++ rest), length-append text rest)

pub length_everywhere : (new text : List ℕ) → length (put_everywhere new text) ≡ length text * (length new + 1) + length new
length_everywhere new [] = omega arith
length_everywhere new (c ∷ text) =
    let others = flat_map (λ d. new ++ d ∷ []) text in
    omega (arith, length_everywhere new text, length-append ((new ++ c ∷ []) ++ others) new, length-append (new ++ c ∷ []) others, length-append new (c ∷ []), length-append others new)

pub replaced_empty : (part new text : List ℕ) → length part ≡ 0 → replaced part new text ≡ put_everywhere new text
replaced_empty [] new text empty = refl
replaced_empty (c ∷ part) new text empty = absurd (omega arith)

pub replaced_filled : (part new text : List ℕ) → 0 < length part → replaced part new text ≡ joined new (pieces part text)
replaced_filled [] new text filled = absurd (omega arith)
replaced_filled (c ∷ part) new text filled = refl

-- pieces that follow another one: there is always one
known : (place : Option ℕ) → (place ≡ None) ⊎ ((at : ℕ) × (place ≡ Some at))
known None = inl refl
known (Some at) = inr (at, refl)

first_place_known : (part text : List ℕ) → (first_place part text ≡ None) ⊎ ((at : ℕ) × (first_place part text ≡ Some at))
first_place_known part text = known (first_place part text)

following_pieces : (part new text : List ℕ) → 0 < length part → following new (pieces part text) ≡ new ++ joined new (pieces part text)
following_pieces part new text filled = elim (first_place_known part text) as (λ _. following new (pieces part text) ≡ new ++ joined new (pieces part text)) [
  | inl none ↦ rw (pieces_none part text filled none) (append_assoc new text [])
  | inr some ↦ rw (pieces_some part text some.0 filled some.1) (append_assoc new (take some.0 text) (following new (pieces part (drop (some.0 + length part) text))))
]

pub next_place : (part new rest made : List ℕ) {with_piece next whole piece rest_after : List ℕ} (at : ℕ) → 0 < length part → Some at ≡ first_place part rest → made ++ joined new (pieces part rest) ≡ whole → with_piece ≡ made ++ piece → next ≡ with_piece ++ new → piece ≡ take at rest → rest_after ≡ drop (at + length part) rest → next ++ joined new (pieces part rest_after) ≡ whole
next_place part new rest made {with_piece} {next} {whole} {piece} {rest_after} at filled found so_far first_added then_added before after =
    let others = joined new (pieces part (drop (at + length part) rest)) in
    rw (then_added, first_added, before, after)
    (append_assoc (made ++ take at rest) new others
    ∙ append_assoc made (take at rest) (new ++ others)
    ∙ ap (λ more. made ++ more)
    (ap (λ more. take at rest ++ more) (sym (following_pieces part new (drop (at + length part) rest) filled))
    ∙ ap (joined new) (sym (pieces_some part rest at filled (sym found))))
    ∙ so_far)

pub the_last_rest : (part new rest made : List ℕ) {next whole : List ℕ} → 0 < length part → None ≡ first_place part rest → made ++ joined new (pieces part rest) ≡ whole → next ≡ made ++ rest → next ≡ whole
the_last_rest part new rest made {next} {whole} filled none so_far e =
    e ∙ ap (λ more. made ++ more) (sym (append-nil rest) ∙ ap (joined new) (sym (pieces_none part rest filled (sym none)))) ∙ so_far

pub next_place_length : (part new rest piece rest_after : List ℕ) (at : ℕ) → 0 < length part → Some at ≡ first_place part rest → piece ≡ take at rest → rest_after ≡ drop (at + length part) rest → length (joined new (pieces part rest)) ≡ length piece + length new + length (joined new (pieces part rest_after))
next_place_length part new rest piece rest_after at filled found before after =
    let step = next_place part new rest [] {whole = joined new (pieces part rest)} {piece = piece} {rest_after = rest_after} at filled found refl refl refl before after in
    let others = joined new (pieces part rest_after) in
    omega (arith, ap length step, length-append (piece ++ new) others, length-append piece new)

pub the_last_length : (part new rest : List ℕ) → 0 < length part → None ≡ first_place part rest → length (joined new (pieces part rest)) ≡ length rest
the_last_length part new rest filled none = ap length (sym (the_last_rest part new rest [] {next = rest} {whole = joined new (pieces part rest)} filled none refl refl))
