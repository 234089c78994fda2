-- What reading a text gives: exactly what the definition has, unless memory runs out.
use Rattle.std.specs.Prelude.{◌≡◌, ℕ, Result, Ok, Err}
use Rattle.suite_report.specs.declared.refusal.ReportRefusal.{ReportRefusal}
use Rattle.suite_report.specs.declared.refusal.ReportRefusal.TheVariants as refusal

abbrev pub Refuses : {A : Type 0} → ReportRefusal → Result A ℕ → Type 0
Refuses (refusal.Refused line) read = read ≡ Err line
Refuses refusal.Memory read = Unit {0}

abbrev pub GivesReport : {A B : Type 0} → (A → B) → Result A ReportRefusal → Result B ℕ → Type 0
GivesReport view (Ok x) read = read ≡ Ok (view x)
GivesReport view (Err e) read = Refuses e read
