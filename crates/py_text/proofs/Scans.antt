-- A scan for a text in another: how many characters fit at a place, and where to go on when the next one doesn't.
use Rattle.std.proofs.Common.{◌≡◌, ◌≢◌, ℕ, zero, suc, ◌+◌, ◌-◌, ◌<◌, ◌≤◌, true, false, List, [], ◌∷◌, ◌++◌, length, drop, get_or, refl, sym, ap, ◌∙◌, subst, inl, inr, Some, None, arith, below_more, length-append, length-drop}
use Rattle.std.proofs.lemmas.Bool.{cases_order, cases_lt, cases_Bool}
use Rattle.std.proofs.lemmas.Bool.Decides.{Decides-eqb}
use Rattle.std.proofs.lemmas.Slice.Eq.{starts_is}
use Rattle.std.proofs.lemmas.List.{get_or_append_left, get_or_push, get_or_default}
use Rattle.std.proofs.lemmas.List.Prefix.{at_from_reads, at_reads, front_fits}
use Rattle.py_meaning.specs.Texts.{first_place}
use Rattle.py_text.proofs.FirstPlaces.{is_at, first_place_is, first_place_none}
use Rattle.py_text.specs.Borders.{IsFrontAt, IsLongestBorder, AreBorders}

pub shorter_front : {part text : List ℕ} {at : ℕ} (size less : ℕ) → less ≤ size → IsFrontAt part text at size → IsFrontAt part text at less
shorter_front size less fewer front = record { each = λ j h. front.each j (omega arith) }

pub no_front : (part text : List ℕ) (at : ℕ) → IsFrontAt part text at 0
no_front part text at = record { each = λ j h. absurd (omega arith) }

-- one more character fits
pub longer_front : {part text : List ℕ} {at : ℕ} (size : ℕ) → IsFrontAt part text at size → get_or text (at + size) 0 ≡ get_or part size 0 → IsFrontAt part text at (size + 1)
longer_front {part} {text} {at} size front fits = record { each = below_more (λ j. get_or text (at + j) 0 ≡ get_or part j 0) size front.each fits }

-- where the text continues after a border, as much fits as the border has
pub slides : {part text : List ℕ} (at size border : ℕ) → IsFrontAt part text at size → (b : IsLongestBorder part size border) → IsFrontAt part text (at + b.at) border
slides {part} {text} at size border front b = record {
  each = λ j h.
      let ends = b.ends in
      let here : get_or text (at + (b.at + j)) 0 ≡ get_or part (b.at + j) 0 = front.each (b.at + j) (omega arith) in
      let same : at + b.at + j ≡ at + (b.at + j) = omega arith in
      ap (λ k. get_or text k 0) same ∙ here ∙ b.is_front.each j h;
}

-- Between the two places the part isn't found: it would be a longer border.
pub skips : {part text : List ℕ} (at size border : ℕ) → IsFrontAt part text at size → (b : IsLongestBorder part size border) → (next n : ℕ) → at < next → next < at + b.at → at + size ≤ next + n → IsFrontAt part text next n → ⊥
skips {part} {text} at size border front b next n after before enough there =
    let d = next - at in
    let rest = size - d in
    let ends = b.ends in
    b.longest d rest (omega arith) (omega arith) (omega arith) (record {
      each = λ j h.
          let one : get_or text (at + (d + j)) 0 ≡ get_or part (d + j) 0 = front.each (d + j) (omega arith) in
          let same : at + (d + j) ≡ next + j = omega arith in
          sym one ∙ ap (λ k. get_or text k 0) same ∙ there.each j (omega arith);
    })

-- What a scan has seen: so many characters fit at a place, and the part is at none before it.
pub record IsScanned (part text : List ℕ) (at fit : ℕ) : Type 0 where
  pub is_front : IsFrontAt part text at fit
  pub before : (k : ℕ) → k < at → k + length part ≤ length text → IsFrontAt part text k (length part) → ⊥

pub scan_begins : (part text : List ℕ) → IsScanned part text 0 0
scan_begins part text = record { is_front = no_front part text 0; before = λ k h. absurd (omega arith) }

pub scan_fits : {part text : List ℕ} {at fit : ℕ} → IsScanned part text at fit → get_or text (at + fit) 0 ≡ get_or part fit 0 → IsScanned part text at (fit + 1)
scan_fits {fit = fit} s fits = record { is_front = longer_front fit s.is_front fits; before = s.before }

pub scan_moves : {part text : List ℕ} {at : ℕ} → IsScanned part text at 0 → 0 < length part → get_or text (at + 0) 0 ≢ get_or part 0 0 → IsScanned part text (at + 1) 0
scan_moves {part} {text} {at} s filled apart = record {
  is_front = no_front part text (at + 1);
  before = below_more (λ k. k + length part ≤ length text → IsFrontAt part text k (length part) → ⊥) at s.before (λ within there. apart (there.each 0 filled));
}

-- Where the next character doesn't fit, the scan continues at the longest border of those that do.
pub scan_slides : {part text : List ℕ} {at fit : ℕ} (border : ℕ) → IsScanned part text at fit → fit < length part → get_or text (at + fit) 0 ≢ get_or part fit 0 → (b : IsLongestBorder part fit border) → IsScanned part text (at + b.at) border
scan_slides {part} {text} {at} {fit} border s more apart b = record {
  is_front = slides at fit border s.is_front b;
  before = λ k h within there.
      elim (cases_order k at) as (λ _. ⊥) [
        | inl same ↦ apart (subst (λ (j : ℕ). get_or text (j + fit) 0 ≡ get_or part fit 0) same (there.each fit more))
        | inr (inl less) ↦ s.before k less within there
        | inr (inr after) ↦ skips at fit border s.is_front b k (length part) after h (omega arith) there
      ];
}

-- the part is at a place
pub is_here : (part text : List ℕ) (at : ℕ) → at + length part ≤ length text → IsFrontAt part text at (length part) → is_at part text at ≡ true
is_here part text at within front =
    (starts_is Decides-eqb (drop at text) part (is_at part text at) refl).1 (drop (at + length part) text) (at_from_reads 0 text part at within front.each)

pub is_not_at : (part text : List ℕ) (at : ℕ) → at ≤ length text → (at + length part ≤ length text → IsFrontAt part text at (length part) → ⊥) → is_at part text at ≡ false
is_not_at part text at within never =
    elim (cases_Bool (is_at part text at)) as (λ _. is_at part text at ≡ false) [
      | inl it_is ↦
          let whole = (starts_is Decides-eqb (drop at text) part (is_at part text at) refl).0 it_is in
          let fits = front_fits (drop at text) part (drop (length part) (drop at text)) whole in
          absurd (never (omega (arith, length-drop at text)) (record { each = at_reads 0 text part at (drop (length part) (drop at text)) whole }))
      | inr it_does_not ↦ it_does_not
    ]

pub found_at : {part text : List ℕ} (at : ℕ) → at + length part ≤ length text → IsScanned part text at (length part) → Some at ≡ first_place part text
found_at {part} {text} at within s =
    sym (first_place_is part text at (omega arith) (λ k h. is_not_at part text k (omega arith) (s.before k h)) (is_here part text at within s.is_front))

pub found_nowhere : {part text : List ℕ} (at fit : ℕ) → length text < at + length part → IsScanned part text at fit → None ≡ first_place part text
found_nowhere {part} {text} at fit past s =
    sym (first_place_none part text (λ k h. is_not_at part text k h (λ within there. s.before k (omega arith) within there)))

-- What is known while borders are made: so many characters of the text fit at a place of its own, which is the longest
-- border so far, and no longer one continues.
pub record AreBordersSoFar (text borders : List ℕ) (at fit : ℕ) : Type 0 where
  pub begins : 0 < at
  pub ends : at + fit ≡ length borders
  pub is_front : IsFrontAt text text at fit
  pub before : (k rest : ℕ) → 0 < k → k < at → k + rest ≡ length borders + 1 → IsFrontAt text text k rest → ⊥
  pub are_borders : AreBorders text borders

the_first : (text : List ℕ) (k : ℕ) → k < 1 → IsLongestBorder text (k + 1) (get_or (0 ∷ []) k 0)
the_first text zero h = record { at = 1; begins = omega arith; ends = refl; is_front = no_front text text 1; longest = λ before rest a b. absurd (omega arith) }
the_first text (suc k) h = absurd (omega arith)

pub first_border : (text : List ℕ) → AreBordersSoFar text (0 ∷ []) 1 0
first_border text = record {
  begins = omega arith;
  ends = refl;
  is_front = no_front text text 1;
  before = λ k rest a b. absurd (omega arith);
  are_borders = the_first text;
}

more_borders : (text borders : List ℕ) (border : ℕ) → AreBorders text borders → IsLongestBorder text (length borders + 1) border → AreBorders text (borders ++ border ∷ [])
more_borders text borders border are new k h =
    elim (cases_lt k (length borders)) as (λ _. IsLongestBorder text (k + 1) (get_or (borders ++ border ∷ []) k 0)) [
      | inl less ↦ subst (IsLongestBorder text (k + 1)) (sym (get_or_append_left borders (border ∷ []) 0 k less)) (are k less)
      | inr past ↦
          let same : length borders ≡ k = omega (arith, length-append borders (border ∷ [])) in
          subst (IsLongestBorder text (k + 1)) (sym (get_or_push borders border 0 k same)) (subst (λ (n : ℕ). IsLongestBorder text (n + 1) border) same new)
    ]

pub border_fits : {text borders : List ℕ} {at fit : ℕ} → AreBordersSoFar text borders at fit → get_or text (at + fit) 0 ≡ get_or text fit 0 → AreBordersSoFar text (borders ++ (fit + 1) ∷ []) at (fit + 1)
border_fits {text} {borders} {at} {fit} s fits =
    let longer = longer_front fit s.is_front fits in
    let ends = s.ends in
    let grown = length-append borders ((fit + 1) ∷ []) in
    record {
      begins = s.begins;
      ends = omega arith;
      is_front = longer;
      before = λ k rest a b e there. s.before k (rest - 1) a b (omega arith) (shorter_front rest (rest - 1) (omega arith) there);
      are_borders = more_borders text borders (fit + 1) s.are_borders (record { at = at; begins = s.begins; ends = omega arith; is_front = longer; longest = s.before });
    }

pub border_moves : {text borders : List ℕ} {at : ℕ} → AreBordersSoFar text borders at 0 → get_or text (at + 0) 0 ≢ get_or text 0 0 → AreBordersSoFar text (borders ++ 0 ∷ []) (at + 1) 0
border_moves {text} {borders} {at} s apart =
    let ends = s.ends in
    let grown = length-append borders (0 ∷ []) in
    let never : (k rest : ℕ) → 0 < k → k < at + 1 → k + rest ≡ length borders + 1 → IsFrontAt text text k rest → ⊥ =
    λ k rest a b e there.
    elim (cases_lt k at) as (λ _. ⊥) [
      | inl less ↦ s.before k rest a less e there
      | inr past ↦
          let same : k ≡ at = omega arith in
          apart (subst (λ (j : ℕ). get_or text (j + 0) 0 ≡ get_or text 0 0) same (there.each 0 (omega arith)))
    ] in
    record {
      begins = omega arith;
      ends = omega arith;
      is_front = no_front text text (at + 1);
      before = λ k rest a b e there. never k (rest - 1) a b (omega arith) (shorter_front rest (rest - 1) (omega arith) there);
      are_borders = more_borders text borders 0 s.are_borders (record { at = at + 1; begins = omega arith; ends = omega arith; is_front = no_front text text (at + 1); longest = never });
    }

pub border_moves_on : {text borders : List ℕ} {at fit : ℕ} → fit ≡ 0 → AreBordersSoFar text borders at fit → get_or text (at + fit) 0 ≢ get_or text fit 0 → AreBordersSoFar text (borders ++ 0 ∷ []) (at + 1) fit
border_moves_on {text} {borders} {at} {fit} none =
    subst (λ (n : ℕ). AreBordersSoFar text borders at n → get_or text (at + n) 0 ≢ get_or text n 0 → AreBordersSoFar text (borders ++ 0 ∷ []) (at + 1) n) (sym none) (λ s apart. border_moves s apart)

pub border_slides : {text borders : List ℕ} {at fit : ℕ} (border : ℕ) → AreBordersSoFar text borders at fit → get_or text (at + fit) 0 ≢ get_or text fit 0 → (b : IsLongestBorder text fit border) → AreBordersSoFar text borders (at + b.at) border
border_slides {text} {borders} {at} {fit} border s apart b =
    let ends = s.ends in
    let shorter = b.ends in
    record {
      begins = omega arith;
      ends = omega arith;
      is_front = slides at fit border s.is_front b;
      before = λ k rest a h e there.
          elim (cases_order k at) as (λ _. ⊥) [
            | inl same ↦ apart (subst (λ (j : ℕ). get_or text (j + fit) 0 ≡ get_or text fit 0) same (there.each fit (omega arith)))
            | inr (inl less) ↦ s.before k rest a less e there
            | inr (inr after) ↦ skips at fit border s.is_front b k rest after h (omega arith) there
          ];
      are_borders = s.are_borders;
    }

-- the border in the table
pub border_of : {text : List ℕ} (borders : List ℕ) (fit d : ℕ) {border : ℕ} → AreBorders text borders → 0 < fit → fit ≤ length borders → border ≡ get_or borders (fit - 1) d → IsLongestBorder text fit border
border_of {text} borders fit d {border} are filled within read =
    subst (IsLongestBorder text fit) (sym (read ∙ get_or_default borders (fit - 1) d 0 (omega arith))) (subst (λ (n : ℕ). IsLongestBorder text n (get_or borders (fit - 1) 0)) (omega arith) (are (fit - 1) (omega arith)))

-- where the border begins, as a difference
pub begins_at : {text : List ℕ} (fit border : ℕ) → (b : IsLongestBorder text fit border) → b.at ≡ fit - border
begins_at fit border b = let ends = b.ends in omega arith

-- two characters that were read and differ
pub apart_as_read : (text part : List ℕ) (i j x y : ℕ) → i < length text → j < length part → x ≡ get_or text i x → y ≡ get_or part j y → x ≢ y → get_or text i 0 ≢ get_or part j 0
apart_as_read text part i j x y a b read_x read_y apart same = apart (read_x ∙ get_or_default text i x 0 a ∙ same ∙ get_or_default part j 0 y b ∙ sym read_y)

pub same_as_read : (text part : List ℕ) (i j x y : ℕ) → i < length text → j < length part → x ≡ get_or text i x → y ≡ get_or part j y → x ≡ y → get_or text i 0 ≡ get_or part j 0
same_as_read text part i j x y a b read_x read_y same = get_or_default text i 0 x a ∙ sym read_x ∙ same ∙ read_y ∙ get_or_default part j y 0 b
