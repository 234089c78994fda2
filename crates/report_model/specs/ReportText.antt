-- The text of a report: its lines, each ended by a line feed.
use Rattle.std.specs.Prelude.{ℕ, ◌+◌, Bool, true, false, List, [], ◌∷◌, ◌++◌, length, count_by, is_some, codes}
use Rattle.std.specs.List.{flat_map}
use Rattle.report_model.specs.declared.lines.GoalLine.{GoalLine}
use Rattle.report_model.specs.declared.lines.MutantLine.{MutantLine}
use Rattle.report_model.specs.declared.mutant.Verdict.{Verdict}
use Rattle.report_model.specs.declared.mutant.Verdict.TheVariants.{Killed}
use Rattle.report_model.specs.declared.report.Report.{Report}
use Rattle.report_model.specs.Lines.{title_line, module_line, steps_line, cap_line, test_line, goal_line, mutant_line, total_line, minimal_line}

-- the two totals: goals that are covered, all goals, mutants that are killed, all mutants
pub record Totals : Type 0 where
  pub covered : ℕ
  pub goals : ℕ
  pub killed : ℕ
  pub mutants : ℕ

abbrev pub is_killed : Verdict → Bool
is_killed (Killed id line why) = true
is_killed _ = false

-- the totals that a report's own lines add up to
abbrev pub totals_of : Report → Totals
totals_of report =
    record {
      covered = count_by (λ (goal : GoalLine). is_some goal.by) report.goals;
      goals = length report.goals;
      killed = count_by (λ (mutant : MutantLine). is_killed mutant.verdict) report.mutants;
      mutants = length report.mutants;
    }

-- the lines of things that are numbered in order, of which the first has number k
abbrev pub numbered : {A : Type 0} → (ℕ → A → List ℕ) → ℕ → List A → List (List ℕ)
numbered line k [] = []
numbered line k (x ∷ xs) = line k x ∷ numbered line (k + 1) xs

-- The lines after the head and the tests: the goals, the mutants, and the end.
abbrev pub end_lines : Totals → Bool → List (List ℕ)
end_lines totals minimal =
    total_line (codes "goals") totals.covered totals.goals ∷ total_line (codes "kills") totals.killed totals.mutants ∷ minimal_line minimal ∷ []

-- The lines of a report in a version of the format, with these totals.
abbrev pub lines_with : ℕ → Totals → Report → List (List ℕ)
lines_with version totals report =
    title_line version ∷ module_line report.module ∷ steps_line report.steps ∷ cap_line report.cap
    ∷ (numbered test_line 0 report.tests ++ (numbered goal_line 0 report.goals ++ (numbered mutant_line 0 report.mutants ++ end_lines totals report.minimal)))

-- lines, each ended by a line feed
abbrev pub ended : List ℕ → List ℕ
ended line = line ++ (10 ∷ [])

abbrev pub text_of_lines : List (List ℕ) → List ℕ
text_of_lines lines = flat_map ended lines

-- the text that has these totals, whatever the lines add up to
abbrev pub text_with : ℕ → Totals → Report → List ℕ
text_with version totals report = text_of_lines (lines_with version totals report)

-- the version of the format that is written and read
abbrev pub current : ℕ
current = 1

-- the text of a report
abbrev pub report_text : Report → List ℕ
report_text report = text_with current (totals_of report) report
