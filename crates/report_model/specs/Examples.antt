-- Worked examples: a report of two tests, three goals and three mutants, its text, and texts that are refused.
use Rattle.std.specs.Prelude.{ℕ, false, List, [], ◌∷◌, ◌++◌, Some, None, codes}
use Rattle.pyn_base.specs.declared.construct.Construct.TheVariants.{CallDepth}
use Rattle.report_model.specs.declared.lines.ShownKind.TheVariants as kind
use Rattle.report_model.specs.declared.lines.TestLine.TheVariants as test
use Rattle.report_model.specs.declared.mutant.Operator.TheVariants as op
use Rattle.report_model.specs.declared.mutant.Verdict.TheVariants as verdict
use Rattle.report_model.specs.declared.reason.Cause.TheVariants as cause
use Rattle.report_model.specs.declared.reason.ShownReason.TheVariants as reason
use Rattle.report_model.specs.declared.report.Report.{Report}
use Rattle.report_model.specs.LineForms.{test_id}

abbrev pub sample : Report
sample = record {
  «module» = codes "box";
  steps = 20000;
  cap = 500;
  tests = test.Passes ∷ test.Fails 8 (reason.Raised (codes "Full")) ∷ [];
  goals = record { kind = kind.Entry; line = 2; by = Some (test_id 0) } ∷ record { kind = kind.True; line = 3; by = None } ∷ record { kind = kind.Reached; line = 4; by = Some (test_id 1) } ∷ [];
  mutants = record { op = op.Coi; line = 3; verdict = verdict.Killed (test_id 1) 8 reason.NotRaised } ∷ record { op = op.Ror; line = 4; verdict = verdict.Undecided (cause.Left CallDepth) } ∷ record { op = op.Crp; line = 4; verdict = verdict.Survived } ∷ [];
  minimal = false;
}

abbrev pub head : List ℕ
head = codes "pynguin report 1\nmodule box\nsteps 20000\nmutants 500\n"

abbrev pub body : List ℕ
body = codes "test 0 passes\ntest 1 fails line 8 raised Full\ngoal 0 entry 2 covered 0\ngoal 1 true 3 missed\ngoal 2 line 4 covered 1\nmutant 0 COI 3 killed 1 line 8 not raised\nmutant 1 ROR 4 undecided left call depth\nmutant 2 CRP 4 survived\n"

abbrev pub sample_text : List ℕ
sample_text = head ++ body ++ codes "goals 2 of 3\nkills 1 of 3\nminimal no\n"

-- A report without tests, goals and mutants ends so.
abbrev pub empty_end : List ℕ
empty_end = codes "goals 0 of 0\nkills 0 of 0\nminimal yes\n"
