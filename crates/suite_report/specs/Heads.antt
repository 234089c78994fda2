-- The head of a report: as it is read, and its lines.
use Rattle.std.specs.Prelude.{ℕ, List, [], ◌∷◌, ◌++◌, codes, decimal}
use Rattle.report_model.specs.declared.report.Report.{Report}
use Rattle.report_model.specs.Lines.{title_line, module_line, steps_line, cap_line}
use Rattle.report_model.specs.ReportRead as read
use Rattle.report_model.specs.ReportText.{current}
use Rattle.suite_report.specs.declared.read.Head.{Head}

abbrev pub head_view : Head → read.Head
head_view head = record { name = head.«module»; steps = head.steps; cap = head.cap }

abbrev pub head_lines : Report → List (List ℕ)
head_lines report = title_line current ∷ module_line report.«module» ∷ steps_line report.steps ∷ cap_line report.cap ∷ []

-- those lines as they are written
abbrev pub head_text : Report → List ℕ
head_text report =
    codes "pynguin report 1\nmodule " ++ (report.«module» ++ (codes "\nsteps " ++ (decimal report.steps ++ (codes "\nmutants " ++ (decimal report.cap ++ codes "\n")))))
