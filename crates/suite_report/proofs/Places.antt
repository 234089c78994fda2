-- Lines and places in a text.
use Rattle.std.proofs.Common.{◌≡◌, ℕ, ◌+◌, ◌<◌, ◌≤◌, ◌^◌, Bool, true, false, cond, eqb, List, [], ◌∷◌, ◌++◌, length, Option, Some, None, Result, Ok, Err, codes, refl, sym, ap, subst, ◌∙◌, append_assoc, append-nil, arith, inl, inr, ◌⊎◌}
use Rattle.std.proofs.lemmas.Bool.{false≢true}
use Rattle.std.proofs.lemmas.Option.{same_Some, none-some, cond_some}
use Rattle.std.proofs.lemmas.Slice.Eq.{bytes_eq-Decides}
use Rattle.std.specs.Str.{bytes_eq}
use Rattle.report_model.specs.Fields.{with_first, cut}
use Rattle.report_model.specs.LineForms.{title_of, total_of, minimal_of}
use Rattle.report_model.specs.Lines.{title_line}
use Rattle.report_model.specs.ReportRead.{◌>>=◌, end_at, Lines, with_front, lines_of, Place, read_or, next_in, next, goes_on, series_in, ends_in}
use Rattle.suite_report.specs.declared.cursor.Cursor.{Cursor}
use Rattle.suite_report.specs.declared.fault.Fault.{Fault}
use Rattle.suite_report.specs.declared.fault.Fault.TheVariants as fault
use Rattle.suite_report.specs.Gives.{Fails}
use Rattle.suite_report.specs.Places.{place, left, HasRoom, IsLineAfter, refusal_by, IsRead, series_at, IsItemAfter}
use Rattle.suite_report.specs.Refuses.{Refuses}

-- ---- lines

chosen : {A : Type 0} (b : Bool) (x y z : A) → cond b x y ≡ z → ((b ≡ true) × (x ≡ z)) ⊎ ((b ≡ false) × (y ≡ z))
chosen true x y z e = inl (refl, e)
chosen false x y z e = inr (refl, e)

with_first_some : (c : ℕ) (o : Option (List ℕ × List ℕ)) (parts : List ℕ × List ℕ) → with_first c o ≡ Some parts → (p : List ℕ × List ℕ) × (o ≡ Some p) × ((c ∷ p.0, p.1) ≡ parts)
with_first_some c None parts e = absurd (none-some parts e)
with_first_some c (Some p) parts e = (p, refl, same_Some (c ∷ p.0, p.1) parts e)

with_first_none : (c : ℕ) (o : Option (List ℕ × List ℕ)) → with_first c o ≡ None → o ≡ None
with_first_none c None e = refl
with_first_none c (Some p) e = absurd (none-some (c ∷ p.0, p.1) (sym e))

abbrev lines : List (List ℕ) → List ℕ → Lines
lines whole rest = record { whole = whole; rest = rest }

pub lines_none : (text : List ℕ) → cut 10 text ≡ None → lines_of text ≡ lines [] text
lines_none [] e = refl
lines_none (c ∷ text) e =
    elim (chosen (eqb c 10) (Some ([], text)) (with_first c (cut 10 text)) None e) [
      | inl h ↦ absurd (none-some ([], text) (sym h.1))
      | inr h ↦ rw (h.0, lines_none text (with_first_none c (cut 10 text) h.1)) refl
    ]

-- a line, what is after it, and how long they are
abbrev Cuts : List ℕ → List ℕ × List ℕ → Type 0
Cuts text p = (lines_of text ≡ lines (p.0 ∷ (lines_of p.1).whole) (lines_of p.1).rest) × (length p.0 + length p.1 + 1 ≡ length text)

pub lines_some : (text : List ℕ) (p : List ℕ × List ℕ) → cut 10 text ≡ Some p → Cuts text p
lines_some [] p e = absurd (none-some p e)
lines_some (c ∷ text) p e =
    elim (chosen (eqb c 10) (Some ([], text)) (with_first c (cut 10 text)) (Some p) e) [
      | inl h ↦ subst (Cuts (c ∷ text)) (same_Some ([], text) p h.1) (rw h.0 refl, omega arith)
      | inr h ↦
          let q = with_first_some c (cut 10 text) p h.1 in
          let more = lines_some text q.0 q.1 in
          subst (Cuts (c ∷ text)) q.2 (rw (h.0, more.0) refl, omega (arith, more.1))
    ]

-- ---- the next line

pub room_after : (at next : Cursor) (line : List ℕ) → HasRoom at → IsLineAfter at line next → HasRoom next
room_after at next line room l = omega (arith, l.number, l.bytes)

pub no_next : {A : Type 0} (form : List ℕ → Option A) (at : Cursor) → lines_of at.rest.now ≡ lines [] at.rest.now → next form (place at) ≡ Err at.number
no_next form at e = ap (λ (x : Lines). next_in form at.number x.whole) e

next_form : {A : Type 0} (form : List ℕ → Option A) (at after : Cursor) (line : List ℕ) → IsLineAfter at line after → next form (place at) ≡ read_or at.number (lines_of after.rest.now).whole (form line)
next_form form at after line l = ap (λ (x : Lines). next_in form at.number x.whole) l.lines

pub is_read : {A : Type 0} (form : List ℕ → Option A) (at after : Cursor) (line : List ℕ) (x : A) → IsLineAfter at line after → form line ≡ Some x → HasRoom after → IsRead at x after (next form (place at))
is_read {A = A} form at after line x l e room =
    let whole = (lines_of after.rest.now).whole in
    let value : A → ℕ → Result (A × Place) ℕ = λ y n. Ok (y, record { number = n; lines = whole }) in
    record {
      is = next_form form at after line l ∙ ap (read_or at.number whole) e ∙ ap (λ n. value x n) (sym l.number);
      left = sym (ap (λ (y : Lines). y.rest) l.lines);
      room = room;
    }

pub is_refused : {A : Type 0} (form : List ℕ → Option A) (at after : Cursor) (line : List ℕ) (f : Fault) → IsLineAfter at line after → Fails f (form line) → Refuses (refusal_by at.number f) (next form (place at))
is_refused form at after line fault.Form l e = next_form form at after line l ∙ ap (read_or at.number (lines_of after.rest.now).whole) e
is_refused form at after line fault.Memory l e = tt

-- after the title there is room
pub room_after_title : (version : ℕ) (at after : Cursor) (line : List ℕ) (v : ℕ) → at.number ≡ 1 → length at.rest.now < 2 ^ 64 → IsLineAfter at line after → title_of version line ≡ Some v → HasRoom after
unfolding title_of
room_after_title version at after line v one fits l e =
    let p = cond_some (bytes_eq line (title_line version)) version v e in
    let same : line ≡ title_line version = (bytes_eq-Decides line (title_line version)).0 p.0 in
    let long : 1 ≤ length line = rw same (omega arith) in
    omega (arith, l.number, l.bytes)

-- ---- the end

ends_front : (c : ℕ) (number : ℕ) (whole : List (List ℕ)) (rest : List ℕ) → ends_in (with_front c whole rest).rest number (with_front c whole rest).whole ≡ Err number
ends_front c number [] rest = refl
ends_front c number (line ∷ more) [] = refl
ends_front c number (line ∷ more) (d ∷ rest) = refl

ends_line : (number : ℕ) (more : List (List ℕ)) (rest : List ℕ) → ends_in rest number ([] ∷ more) ≡ Err number
ends_line number more [] = refl
ends_line number more (d ∷ rest) = refl

-- where something is left, the text does not end
pub not_ended : (number c : ℕ) (text : List ℕ) → ends_in (lines_of (c ∷ text)).rest number (lines_of (c ∷ text)).whole ≡ Err number
not_ended number c text =
    let Is : Lines → Type 0 = λ x. ends_in x.rest number x.whole ≡ Err number in
    let at : (b : Bool) → Is (cond b (lines ([] ∷ (lines_of text).whole) (lines_of text).rest) (with_front c (lines_of text).whole (lines_of text).rest)) =
    λ b. elim b as (λ (v : Bool). Is (cond v (lines ([] ∷ (lines_of text).whole) (lines_of text).rest) (with_front c (lines_of text).whole (lines_of text).rest))) [
      | true ↦ ends_line number (lines_of text).whole (lines_of text).rest
      | false ↦ ends_front c number (lines_of text).whole (lines_of text).rest
    ] in
    at (eqb c 10)

not_ended_text : (number : ℕ) (text : List ℕ) → eqb (length text) 0 ≡ false → ends_in (lines_of text).rest number (lines_of text).whole ≡ Err number
not_ended_text number [] e = absurd (false≢true (sym e))
not_ended_text number (c ∷ text) e = not_ended number c text

then_is : {A B : Type 0} (r : Result A ℕ) (f : A → Result B ℕ) (x : A) (z : Result B ℕ) → r ≡ Ok x → f x ≡ z → (r >>= f) ≡ z
then_is r f x z e h = ap (λ p. p >>= f) e ∙ h

-- what is left after the last line of a report is refused
pub end_refused : (at a b m : Cursor) (x y : ℕ × ℕ) (v : Bool) → IsRead at x a (next (total_of (codes "goals")) (place at)) → IsRead a y b (next (total_of (codes "kills")) (place a)) → IsRead b v m (next minimal_of (place b))
    → eqb (length m.rest.now) 0 ≡ false → end_at (left at) (place at) ≡ Err m.number
unfolding end_at
end_refused at a b m x y v goals kills minimal some =
    let rest = left at in
    let same : left at ≡ left m = sym (minimal.left ∙ kills.left ∙ goals.left) in
    then_is (next (total_of (codes "goals")) (place at)) (λ taken. next (total_of (codes "kills")) taken.1 >>= λ killed. next minimal_of killed.1 >>= λ last. ends_in rest last.1.number last.1.lines >>= λ all. Ok last.0) (x, place a) (Err m.number) goals.is
    (then_is (next (total_of (codes "kills")) (place a)) (λ killed. next minimal_of killed.1 >>= λ last. ends_in rest last.1.number last.1.lines >>= λ all. Ok last.0) (y, place b) (Err m.number) kills.is
    (then_is (next minimal_of (place b)) (λ last. ends_in rest last.1.number last.1.lines >>= λ all. Ok last.0) (v, place m) (Err m.number) minimal.is
    (ap (λ (r : List ℕ). ends_in r m.number (lines_of m.rest.now).whole >>= λ all. Ok v) same ∙ ap (λ r. r >>= λ all. Ok v) (not_ended_text m.number m.rest.now some))))

-- ---- series

module _ {A : Type 0} (form : ℕ → List ℕ → Option A) where
  pub no_line : (k : ℕ) (at : Cursor) → lines_of at.rest.now ≡ lines [] at.rest.now → series_at form k at ≡ ([], place at)
  no_line k at e =
      let none : List (List ℕ) → List A × Place = λ ls. ([], record { number = at.number; lines = ls }) in
      ap (λ (x : Lines). series_in form k at.number x.whole) e ∙ ap (λ (x : Lines). none x.whole) (sym e)

  pub no_item : (k : ℕ) (at after : Cursor) (line : List ℕ) → IsLineAfter at line after → form k line ≡ None → series_at form k at ≡ ([], place at)
  no_item k at after line l e =
      let whole = (lines_of after.rest.now).whole in
      let none : List (List ℕ) → List A × Place = λ ls. ([], record { number = at.number; lines = ls }) in
      ap (λ (x : Lines). series_in form k at.number x.whole) l.lines
      ∙ ap (λ o. goes_on o record { number = at.number; lines = line ∷ whole } (series_in form (k + 1) (at.number + 1) whole)) e
      ∙ ap (λ (x : Lines). none x.whole) (sym l.lines)

  pub is_item : (k : ℕ) (at after : Cursor) (line : List ℕ) (item : A) → HasRoom at → IsLineAfter at line after → form k line ≡ Some item → IsItemAfter form k at item after
  is_item k at after line item room l e =
      let whole = (lines_of after.rest.now).whole in
      let later : ℕ → List A × Place = λ n. series_in form (k + 1) n whole in
      let longer : List A × Place → List A × Place = λ s. (item ∷ s.0, s.1) in
      record {
        is = ap (λ (x : Lines). series_in form k at.number x.whole) l.lines
            ∙ ap (λ o. goes_on o record { number = at.number; lines = line ∷ whole } (later (at.number + 1))) e
            ∙ ap (λ n. longer (later n)) (sym l.number);
        left = sym (ap (λ (y : Lines). y.rest) l.lines);
        room = room_after at after line room l;
        shorter = omega (arith, l.bytes);
      }

  -- what is read before, and the series after it
  abbrev pub with_front_items : List A → List A × Place → List A × Place
  with_front_items items s = (items ++ s.0, s.1)

  pub series_more : (start at after : Cursor) (items : List A) (item : A) (k n : ℕ) → k ≡ length items → n ≡ k + 1 → series_at form 0 start ≡ with_front_items items (series_at form k at) → IsItemAfter form k at item after
      → series_at form 0 start ≡ with_front_items (items ++ item ∷ []) (series_at form n after)
  series_more start at after items item k n ek en before next =
      before ∙ ap (with_front_items items) next.is
      ∙ ap (λ (xs : List A). (xs, (series_at form (k + 1) after).1)) (sym (append_assoc items (item ∷ []) (series_at form (k + 1) after).0))
      ∙ ap (λ m. with_front_items (items ++ item ∷ []) (series_at form m after)) (sym en)

  pub series_done : (start at : Cursor) (items : List A) (k : ℕ) → series_at form 0 start ≡ with_front_items items (series_at form k at) → series_at form k at ≡ ([], place at) → series_at form 0 start ≡ (items, place at)
  series_done start at items k before none =
      before ∙ ap (with_front_items items) none ∙ ap (λ (xs : List A). (xs, place at)) (append-nil items)
