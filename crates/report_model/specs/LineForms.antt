-- What a line of a report says, for each kind of line, without its line feed. A line of another form gives nothing.
use Rattle.std.specs.Prelude.{ℕ, Bool, true, false, if◌then◌else◌, List, Option, Some, None, bytes_eq, codes}
use Rattle.pyn_base.specs.Construct.{text_of}
use Rattle.pyn_base.specs.declared.ids.TestId.{TestId}
use Rattle.report_model.specs.declared.lines.GoalLine.{GoalLine}
use Rattle.report_model.specs.declared.lines.MutantLine.{MutantLine}
use Rattle.report_model.specs.declared.lines.TestLine.{TestLine}
use Rattle.report_model.specs.declared.lines.TestLine.TheVariants as test
use Rattle.report_model.specs.declared.mutant.Verdict.{Verdict}
use Rattle.report_model.specs.declared.mutant.Verdict.TheVariants as verdict
use Rattle.report_model.specs.declared.reason.Cause.{Cause}
use Rattle.report_model.specs.declared.reason.Cause.TheVariants as cause
use Rattle.report_model.specs.declared.reason.ShownReason.{ShownReason}
use Rattle.report_model.specs.declared.reason.ShownReason.TheVariants as reason
use Rattle.report_model.specs.Fields.{◌>>=◌, word_at, if_word, after, after_number, number_at, number_of, name_of, named}
use Rattle.report_model.specs.Lines.{title_line, kind_text, operator_text}
use Rattle.report_model.specs.Tables.{kinds, operators, constructs}

abbrev pub test_id : ℕ → TestId
test_id k = record { 0 = k }

-- The head.
unfoldable pub title_of : ℕ → List ℕ → Option ℕ
title_of version line = if_word (title_line version) line version

unfoldable pub module_of : List ℕ → Option (List ℕ)
module_of line = after (codes "module") line >>= name_of

unfoldable pub steps_of : List ℕ → Option ℕ
steps_of line = after (codes "steps") line >>= number_of

unfoldable pub cap_of : List ℕ → Option ℕ
cap_of line = after (codes "mutants") line >>= number_of

-- Why a test fails.
unfoldable pub raised_of : List ℕ → Option ShownReason
raised_of text = do
  rest ← after (codes "raised") text
  class ← name_of rest
  Some (reason.Raised class)

unfoldable pub reason_of : List ℕ → Option ShownReason
reason_of text =
    if bytes_eq text (codes "assert") then Some reason.Assert else (if bytes_eq text (codes "not raised") then Some reason.NotRaised else raised_of text)

-- Why a test stops.
unfoldable pub left_of : List ℕ → Option Cause
left_of text = do
  rest ← after (codes "left") text
  construct ← named text_of constructs rest
  Some (cause.Left construct)

unfoldable pub cause_of : List ℕ → Option Cause
cause_of text = if bytes_eq text (codes "steps") then Some cause.Steps else left_of text

-- a line's number, and what is after it
unfoldable pub line_at : List ℕ → Option (ℕ × List ℕ)
line_at text = after (codes "line") text >>= number_at

-- The end of a test.
unfoldable pub fails_of : List ℕ → Option TestLine
fails_of text = do
  at ← line_at text
  why ← reason_of at.1
  Some (test.Fails at.0 why)

unfoldable pub stopped_of : List ℕ → Option TestLine
stopped_of text = do
  at ← line_at text
  why ← cause_of at.1
  Some (test.Stopped at.0 why)

abbrev pub end_by : List ℕ × List ℕ → Option TestLine
end_by found =
    if bytes_eq found.0 (codes "fails") then fails_of found.1 else (if bytes_eq found.0 (codes "stopped") then stopped_of found.1 else None)

unfoldable pub end_of : List ℕ → Option TestLine
end_of text = if bytes_eq text (codes "passes") then Some test.Passes else word_at text >>= end_by

-- the line of test k
unfoldable pub test_of : ℕ → List ℕ → Option TestLine
test_of k line = after (codes "test") line >>= after_number k >>= end_of

-- The line of goal k.
unfoldable pub covered_of : List ℕ → Option (Option TestId)
covered_of text = do
  rest ← after (codes "covered") text
  k ← number_of rest
  Some (Some (test_id k))

unfoldable pub cover_of : List ℕ → Option (Option TestId)
cover_of text = if bytes_eq text (codes "missed") then Some None else covered_of text

unfoldable pub goal_by : List ℕ → Option GoalLine
goal_by text = do
  word ← word_at text
  kind ← named kind_text kinds word.0
  line ← number_at word.1
  by ← cover_of line.1
  Some (record { kind = kind; line = line.0; by = by })

unfoldable pub goal_of : ℕ → List ℕ → Option GoalLine
goal_of k line = after (codes "goal") line >>= after_number k >>= goal_by

-- The line of mutant k.
unfoldable pub killed_of : List ℕ → Option Verdict
killed_of text = do
  id ← number_at text
  line ← line_at id.1
  why ← reason_of line.1
  Some (verdict.Killed (test_id id.0) line.0 why)

unfoldable pub undecided_of : List ℕ → Option Verdict
undecided_of text = do
  why ← cause_of text
  Some (verdict.Undecided why)

abbrev pub verdict_by : List ℕ × List ℕ → Option Verdict
verdict_by found =
    if bytes_eq found.0 (codes "killed") then killed_of found.1 else (if bytes_eq found.0 (codes "undecided") then undecided_of found.1 else None)

unfoldable pub verdict_of : List ℕ → Option Verdict
verdict_of text = if bytes_eq text (codes "survived") then Some verdict.Survived else word_at text >>= verdict_by

unfoldable pub mutant_by : List ℕ → Option MutantLine
mutant_by text = do
  word ← word_at text
  op ← named operator_text operators word.0
  line ← number_at word.1
  verdict ← verdict_of line.1
  Some (record { op = op; line = line.0; verdict = verdict })

unfoldable pub mutant_of : ℕ → List ℕ → Option MutantLine
mutant_of k line = after (codes "mutant") line >>= after_number k >>= mutant_by

-- The end. Any two numbers are a total.
unfoldable pub total_of : List ℕ → List ℕ → Option (ℕ × ℕ)
total_of word line = do
  rest ← after word line
  some ← number_at rest
  of ← after (codes "of") some.1
  all ← number_of of
  Some (some.0, all)

unfoldable pub minimal_of : List ℕ → Option Bool
minimal_of line =
    if bytes_eq line (codes "minimal yes") then Some true else (if bytes_eq line (codes "minimal no") then Some false else None)
