-- The text of a report.
use Rattle.std.specs.Prelude.{ℕ, ◌+◌, Bool, true, false, List, [], ◌∷◌, ◌++◌, length, Option, Some, None, codes, decimal, count_by, is_some}
use Rattle.pyn_base.specs.Construct.{text_of}
use Rattle.pyn_model.specs.declared.report.GoalKind.{GoalKind}
use Rattle.pyn_base.specs.declared.ids.TestId.{TestId}
use Rattle.pyn_model.specs.declared.report.GoalKind.TheVariants.{Entry, Reached}
use Rattle.pyn_model.specs.declared.report.GoalLine.{GoalLine}
use Rattle.pyn_model.specs.declared.report.TestLine.{TestLine}
use Rattle.pyn_model.specs.declared.report.TestLine.TheVariants as t
use Rattle.pyn_model.specs.declared.report.Report.{Report}

abbrev pub end_text : TestLine → List ℕ
end_text t.Passes = codes "passes"
end_text (t.OutOfSteps line) = codes "stopped line " ++ decimal line ++ codes " steps"
end_text (t.Left line construct) = codes "stopped line " ++ decimal line ++ codes " left " ++ text_of construct

abbrev pub kind_text : GoalKind → List ℕ
kind_text Entry = codes "entry"
kind_text Reached = codes "line"

abbrev pub cover_text : Option TestId → List ℕ
cover_text None = codes "missed"
cover_text (Some k) = codes "covered " ++ decimal k.0

-- the line of test k
abbrev pub test_text : ℕ → TestLine → List ℕ
test_text k test = codes "test " ++ decimal k ++ codes " " ++ end_text test ++ codes "\n"

abbrev pub tests_text : ℕ → List TestLine → List ℕ
tests_text k [] = []
tests_text k (test ∷ rest) = test_text k test ++ tests_text (k + 1) rest

-- the line of goal k
abbrev pub goal_text : ℕ → GoalLine → List ℕ
goal_text k goal =
    codes "goal " ++ decimal k ++ codes " " ++ kind_text goal.kind ++ codes " " ++ decimal goal.line ++ codes " " ++ cover_text goal.by ++ codes "\n"

abbrev pub goals_text : ℕ → List GoalLine → List ℕ
goals_text k [] = []
goals_text k (goal ∷ rest) = goal_text k goal ++ goals_text (k + 1) rest

abbrev pub yes_or_no : Bool → List ℕ
yes_or_no true = codes "yes"
yes_or_no false = codes "no"

-- how many goals are covered
abbrev pub covered_count : List GoalLine → ℕ
covered_count goals = count_by (λ (g : GoalLine). is_some g.by) goals

-- the head: the form's version, the module, the steps of a statement, and the most mutants that are listed
abbrev pub head_text : Report → List ℕ
head_text report =
    codes "pynguin report 1\nmodule " ++ report.module ++ codes "\nsteps " ++ decimal report.steps
    ++ codes "\nmutants " ++ decimal report.cap ++ codes "\n"

-- The totals. No mutation operator is there yet, so no mutant is listed or killed.
abbrev pub totals_text : Report → List ℕ
totals_text report =
    codes "goals " ++ decimal (covered_count report.goals) ++ codes " of " ++ decimal (length report.goals)
    ++ codes "\nkills 0 of 0\nminimal " ++ yes_or_no report.minimal ++ codes "\n"

-- the text of a report
abbrev pub report_text : Report → List ℕ
report_text report = head_text report ++ tests_text 0 report.tests ++ goals_text 0 report.goals ++ totals_text report
