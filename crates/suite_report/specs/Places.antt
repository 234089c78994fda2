-- Where a cursor is in a text: the lines from there on, as the definition has them.
use Rattle.std.specs.Prelude.{◌≡◌, ℕ, ◌+◌, ◌<◌, ◌^◌, List, [], ◌∷◌, length, Option, Some, None, Result, Ok, Err}
use Rattle.std.specs.Borrow.{Bor}
use Rattle.report_model.specs.ReportRead.{Place, lines_of, series_in}
use Rattle.suite_report.specs.declared.cursor.Cursor.{Cursor}
use Rattle.suite_report.specs.declared.refusal.ReportRefusal.{ReportRefusal}
use Rattle.suite_report.specs.declared.refusal.ReportRefusal.TheVariants as refusal
use Rattle.suite_report.specs.declared.fault.Fault.{Fault}
use Rattle.suite_report.specs.declared.fault.Fault.TheVariants as fault
use Rattle.suite_report.specs.Refuses.{Refuses}

abbrev pub place : Cursor → Place
place at = record { number = at.number; lines = (lines_of at.rest.now).whole }

-- what is after the last line feed
abbrev pub left : Cursor → List ℕ
left at = (lines_of at.rest.now).rest

-- the number of any line that is still to be read fits
abbrev pub HasRoom : Cursor → Type 0
HasRoom at = at.number + length at.rest.now < 2 ^ 64

-- a line, and the place after it
pub record IsLineAfter (at : Cursor) (line : List ℕ) (next : Cursor) : Type 0 where
  pub lines : lines_of at.rest.now ≡ record { whole = line ∷ (lines_of next.rest.now).whole; rest = (lines_of next.rest.now).rest }
  pub number : next.number ≡ at.number + 1
  pub bytes : length line + length next.rest.now + 1 ≡ length at.rest.now

abbrev pub IsNextLine : Cursor → Option (Bor (List ℕ) × Cursor) → Type 0
IsNextLine at None = lines_of at.rest.now ≡ record { whole = []; rest = at.rest.now }
IsNextLine at (Some r) = IsLineAfter at r.0.now r.1

-- why a text is refused, by why its line is not read
abbrev pub refusal_by : ℕ → Fault → ReportRefusal
refusal_by number fault.Form = refusal.Refused number
refusal_by number fault.Memory = refusal.Memory

-- a value and the place after it, as the definition has them
pub record IsRead {B : Type 0} (at : Cursor) (value : B) (next : Cursor) (read : Result (B × Place) ℕ) : Type 0 where
  pub is : read ≡ Ok (value, place next)
  pub left : left next ≡ left at
  pub room : HasRoom next

abbrev pub GivesNext : {A B : Type 0} → (A → B) → Cursor → Result (A × Cursor) ReportRefusal → Result (B × Place) ℕ → Type 0
GivesNext view at (Ok x) read = IsRead at (view x.0) x.1 read
GivesNext view at (Err e) read = Refuses e read

-- a series from a place on, whose first number is k
abbrev pub series_at : {A : Type 0} → (ℕ → List ℕ → Option A) → ℕ → Cursor → List A × Place
series_at form k at = series_in form k at.number (lines_of at.rest.now).whole

-- the next of a series
pub record IsItemAfter {A : Type 0} (form : ℕ → List ℕ → Option A) (k : ℕ) (at : Cursor) (item : A) (next : Cursor) : Type 0 where
  pub is : series_at form k at ≡ (item ∷ (series_at form (k + 1) next).0, (series_at form (k + 1) next).1)
  pub left : left next ≡ left at
  pub room : HasRoom next
  pub shorter : length next.rest.now < length at.rest.now

abbrev pub IsNextItem : {A : Type 0} → (ℕ → List ℕ → Option A) → ℕ → Cursor → Option (A × Cursor) → Type 0
IsNextItem form k at None = series_at form k at ≡ ([], place at)
IsNextItem form k at (Some r) = IsItemAfter form k at r.0 r.1

-- a whole series
pub record IsSeries {A : Type 0} (form : ℕ → List ℕ → Option A) (at : Cursor) (items : List A) (next : Cursor) : Type 0 where
  pub is : series_at form 0 at ≡ (items, place next)
  pub left : left next ≡ left at
  pub room : HasRoom next
