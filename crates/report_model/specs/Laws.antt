-- Writing and reading agree.
use Rattle.std.specs.Prelude.{◌≡◌, ℕ, ◌+◌, List, [], ◌∷◌, ◌++◌, length, Ok, Err}
use Rattle.report_model.specs.declared.report.Report.{Report}
use Rattle.report_model.specs.ReportText.{Totals, current, lines_with, text_with}
use Rattle.report_model.specs.ReportRead.{lines_of, read_report}
use Rattle.report_model.specs.Fits.{Fits, FitsTotals}

-- a report's text is read back to it, whatever its totals are
abbrev pub ReadsBack : Type 0
ReadsBack = (totals : Totals) (report : Report) → FitsTotals totals → Fits report → read_report (text_with current totals report) ≡ Ok report

-- What is read is a report's text, but for its totals: so two texts that are read to the same report differ in their totals alone.
abbrev pub IsSpelled : Type 0
IsSpelled = (text : List ℕ) (report : Report) → read_report text ≡ Ok report → Fits report × ((totals : Totals) × FitsTotals totals × (text ≡ text_with current totals report))

-- the lines of some report begin with these
abbrev pub Begins : List (List ℕ) → Type 0
Begins front = (totals : Totals) × (report : Report) × (more : List (List ℕ)) × FitsTotals totals × Fits report × (lines_with current totals report ≡ front ++ more)

-- no report's lines begin with these and the next, where there is a next
abbrev pub IsStuck : List (List ℕ) → List (List ℕ) → Type 0
IsStuck front [] = Unit {0}
IsStuck front (next ∷ more) = Begins (front ++ next ∷ []) → ⊥

-- The line that is refused is the first with which no report's text goes on: the whole lines before it begin some report's text, and those
-- up to it begin none. Where no whole line is left, it is the line after the last.
abbrev pub RefusesFirst : Type 0
RefusesFirst =
    (text : List ℕ) (line : ℕ) → read_report text ≡ Err line
    → (front : List (List ℕ)) × (more : List (List ℕ)) × ((lines_of text).whole ≡ front ++ more) × (line ≡ length front + 1) × Begins front × IsStuck front more
