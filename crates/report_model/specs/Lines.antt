-- The lines of a report, one equation for each kind of line, without the line feed that ends each. The format is the project's own.
use Rattle.std.specs.Prelude.{ℕ, Bool, true, false, List, Option, Some, None, codes, decimal}
use Rattle.pyn_base.specs.Construct.{text_of}
use Rattle.pyn_base.specs.declared.ids.TestId.{TestId}
use Rattle.report_model.specs.declared.lines.GoalLine.{GoalLine}
use Rattle.report_model.specs.declared.lines.MutantLine.{MutantLine}
use Rattle.report_model.specs.declared.lines.ShownKind.{ShownKind}
use Rattle.report_model.specs.declared.lines.ShownKind.TheVariants as kind
use Rattle.report_model.specs.declared.lines.TestLine.{TestLine}
use Rattle.report_model.specs.declared.lines.TestLine.TheVariants as test
use Rattle.report_model.specs.declared.mutant.Operator.{Operator}
use Rattle.report_model.specs.declared.mutant.Operator.TheVariants as op
use Rattle.report_model.specs.declared.mutant.Verdict.{Verdict}
use Rattle.report_model.specs.declared.mutant.Verdict.TheVariants as verdict
use Rattle.report_model.specs.declared.reason.Cause.{Cause}
use Rattle.report_model.specs.declared.reason.Cause.TheVariants as cause
use Rattle.report_model.specs.declared.reason.ShownReason.{ShownReason}
use Rattle.report_model.specs.declared.reason.ShownReason.TheVariants as reason
use Rattle.report_model.specs.Words.{◌␣◌}

-- The head: the version of the format, the module, the steps of a statement, and the most mutants that are listed.
abbrev pub title_line : ℕ → List ℕ
title_line version = codes "pynguin" ␣ codes "report" ␣ decimal version

abbrev pub module_line : List ℕ → List ℕ
module_line name = codes "module" ␣ name

abbrev pub steps_line : ℕ → List ℕ
steps_line steps = codes "steps" ␣ decimal steps

abbrev pub cap_line : ℕ → List ℕ
cap_line cap = codes "mutants" ␣ decimal cap

-- Why a test fails.
abbrev pub reason_text : ShownReason → List ℕ
reason_text reason.Assert = codes "assert"
reason_text (reason.Raised class) = codes "raised" ␣ class
reason_text reason.NotRaised = codes "not raised"

-- Why a test stops.
abbrev pub cause_text : Cause → List ℕ
cause_text cause.Steps = codes "steps"
cause_text (cause.Left construct) = codes "left" ␣ text_of construct

-- The line of test K.
abbrev pub end_text : TestLine → List ℕ
end_text test.Passes = codes "passes"
end_text (test.Fails line why) = codes "fails" ␣ codes "line" ␣ decimal line ␣ reason_text why
end_text (test.Stopped line why) = codes "stopped" ␣ codes "line" ␣ decimal line ␣ cause_text why

abbrev pub test_line : ℕ → TestLine → List ℕ
test_line k t = codes "test" ␣ decimal k ␣ end_text t

-- The line of goal G.
abbrev pub kind_text : ShownKind → List ℕ
kind_text kind.Entry = codes "entry"
kind_text kind.True = codes "true"
kind_text kind.False = codes "false"
kind_text kind.Reached = codes "line"

abbrev pub cover_text : Option TestId → List ℕ
cover_text None = codes "missed"
cover_text (Some id) = codes "covered" ␣ decimal id.0

abbrev pub goal_line : ℕ → GoalLine → List ℕ
goal_line k goal = codes "goal" ␣ decimal k ␣ kind_text goal.kind ␣ decimal goal.line ␣ cover_text goal.by

-- The line of mutant M.
abbrev pub operator_text : Operator → List ℕ
operator_text op.Aod = codes "AOD"
operator_text op.Aor = codes "AOR"
operator_text op.Asr = codes "ASR"
operator_text op.Bcr = codes "BCR"
operator_text op.Coi = codes "COI"
operator_text op.Crp = codes "CRP"
operator_text op.Ehd = codes "EHD"
operator_text op.Exs = codes "EXS"
operator_text op.Lcr = codes "LCR"
operator_text op.Ror = codes "ROR"

abbrev pub verdict_text : Verdict → List ℕ
verdict_text (verdict.Killed id line why) = codes "killed" ␣ decimal id.0 ␣ codes "line" ␣ decimal line ␣ reason_text why
verdict_text verdict.Survived = codes "survived"
verdict_text (verdict.Undecided why) = codes "undecided" ␣ cause_text why

abbrev pub mutant_line : ℕ → MutantLine → List ℕ
mutant_line k mutant = codes "mutant" ␣ decimal k ␣ operator_text mutant.op ␣ decimal mutant.line ␣ verdict_text mutant.verdict

-- The end: so many of so many goals, and of the mutants, and whether the suite is minimal.
abbrev pub total_line : List ℕ → ℕ → ℕ → List ℕ
total_line word some all = word ␣ decimal some ␣ codes "of" ␣ decimal all

abbrev pub minimal_line : Bool → List ℕ
minimal_line true = codes "minimal yes"
minimal_line false = codes "minimal no"
