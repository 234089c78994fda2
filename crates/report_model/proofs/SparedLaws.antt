-- No line of a report has a line feed in it.
use Rattle.std.proofs.Common.{◌≡◌, ℕ, Bool, true, false, List, [], ◌∷◌, Option, Some, None, decimal, codes, refl, arith, not, eqb}
use Rattle.std.specs.Prelude.{IfSome}
use Rattle.std.specs.List.{list_all}
use Rattle.std.proofs.lemmas.Bool.{and_parts, and_from}
use Rattle.std.proofs.lemmas.Bool.Decides.{nat_tests}
use Rattle.report_model.specs.declared.lines.GoalLine.{GoalLine}
use Rattle.report_model.specs.declared.lines.MutantLine.{MutantLine}
use Rattle.report_model.specs.declared.lines.ShownKind.{ShownKind}
use Rattle.report_model.specs.declared.lines.ShownKind.TheVariants as kind
use Rattle.report_model.specs.declared.lines.TestLine.{TestLine}
use Rattle.report_model.specs.declared.lines.TestLine.TheVariants as test
use Rattle.report_model.specs.declared.mutant.Operator.{Operator}
use Rattle.report_model.specs.declared.mutant.Operator.TheVariants as op
use Rattle.report_model.specs.declared.mutant.Verdict.{Verdict}
use Rattle.report_model.specs.declared.mutant.Verdict.TheVariants as verdict
use Rattle.report_model.specs.declared.reason.Cause.{Cause}
use Rattle.report_model.specs.declared.reason.Cause.TheVariants as cause
use Rattle.report_model.specs.declared.reason.ShownReason.{ShownReason}
use Rattle.report_model.specs.declared.reason.ShownReason.TheVariants as reason
use Rattle.pyn_base.specs.Construct.{text_of}
use Rattle.pyn_base.specs.declared.ids.TestId.{TestId}
use Rattle.report_model.specs.Fields.{is_letter, is_name_part, is_name}
use Rattle.report_model.specs.Fits.{IsSmall, FitsReason, FitsTest, FitsGoal, FitsVerdict, FitsMutant}
use Rattle.report_model.specs.Lines.{title_line, module_line, reason_text, cause_text, end_text, test_line, kind_text, cover_text, goal_line, operator_text, verdict_text, mutant_line, total_line, minimal_line}
use Rattle.report_model.specs.Words.{◌␣◌}
use Rattle.report_model.proofs.ConstructLaws.{construct_spared}
use Rattle.report_model.proofs.FieldLaws.{spared, spared_word, decimal_spared}

abbrev IsLine : List ℕ → Type 0
IsLine line = spared 10 line ≡ true

number : (n : ℕ) → IsSmall n → IsLine (decimal n)
number n lt = decimal_spared 10 n (omega arith) (omega arith)

part_is_no_mark : (c : ℕ) → is_name_part c ≡ true → not (eqb c 10) ≡ true
part_is_no_mark c e = grind (arith, nat_tests, e)

letter_is_part : (c : ℕ) → is_letter c ≡ true → is_name_part c ≡ true
letter_is_part c e = rw e refl

parts : (xs : List ℕ) → list_all is_name_part xs ≡ true → IsLine xs
parts [] e = refl
parts (c ∷ xs) e =
    let both = and_parts (is_name_part c) (list_all is_name_part xs) e in
    and_from (not (eqb c 10)) (spared 10 xs) (part_is_no_mark c both.0) (parts xs both.1)

pub name_line : (name : List ℕ) → is_name name ≡ true → IsLine name
name_line [] e = refl
name_line (c ∷ xs) e =
    let both = and_parts (is_letter c) (list_all is_name_part xs) e in
    and_from (not (eqb c 10)) (spared 10 xs) (part_is_no_mark c (letter_is_part c both.0)) (parts xs both.1)

reason_line : (why : ShownReason) → FitsReason why → IsLine (reason_text why)
reason_line reason.Assert fits = refl
reason_line (reason.Raised class) fits = spared_word (codes "raised") class refl (name_line class fits)
reason_line reason.NotRaised fits = refl

cause_line : (why : Cause) → IsLine (cause_text why)
cause_line cause.Steps = refl
cause_line (cause.Left construct) = spared_word (codes "left") (text_of construct) refl (construct_spared construct)

-- `line L` and what is after it
at_line : (word : List ℕ) (n : ℕ) (rest : List ℕ) → IsLine word → IsSmall n → IsLine rest → IsLine (word ␣ decimal n ␣ rest)
at_line word n rest w lt r = spared_word word (decimal n ␣ rest) w (spared_word (decimal n) rest (number n lt) r)

end_line : (t : TestLine) → FitsTest t → IsLine (end_text t)
end_line test.Passes fits = refl
end_line (test.Fails line why) fits = spared_word (codes "fails") (codes "line" ␣ decimal line ␣ reason_text why) refl (at_line (codes "line") line (reason_text why) refl fits.0 (reason_line why fits.1))
end_line (test.Stopped line why) fits = spared_word (codes "stopped") (codes "line" ␣ decimal line ␣ cause_text why) refl (at_line (codes "line") line (cause_text why) refl fits (cause_line why))

pub test_is_line : (k : ℕ) (t : TestLine) → IsSmall k → FitsTest t → IsLine (test_line k t)
test_is_line k t lt fits = at_line (codes "test") k (end_text t) refl lt (end_line t fits)

kind_line : (k : ShownKind) → IsLine (kind_text k)
kind_line kind.Entry = refl
kind_line kind.True = refl
kind_line kind.False = refl
kind_line kind.Reached = refl

cover_line : (by : Option TestId) → IfSome by (λ id. IsSmall id.0) → IsLine (cover_text by)
cover_line None fits = refl
cover_line (Some id) fits = spared_word (codes "covered") (decimal id.0) refl (number id.0 fits)

pub goal_is_line : (k : ℕ) (goal : GoalLine) → IsSmall k → FitsGoal goal → IsLine (goal_line k goal)
goal_is_line k goal lt fits =
    at_line (codes "goal") k (kind_text goal.kind ␣ decimal goal.line ␣ cover_text goal.by) refl lt
    (at_line (kind_text goal.kind) goal.line (cover_text goal.by) (kind_line goal.kind) fits.0 (cover_line goal.by fits.1))

operator_line : (o : Operator) → IsLine (operator_text o)
operator_line op.Aod = refl
operator_line op.Aor = refl
operator_line op.Asr = refl
operator_line op.Bcr = refl
operator_line op.Coi = refl
operator_line op.Crp = refl
operator_line op.Ehd = refl
operator_line op.Exs = refl
operator_line op.Lcr = refl
operator_line op.Ror = refl

verdict_line : (v : Verdict) → FitsVerdict v → IsLine (verdict_text v)
verdict_line (verdict.Killed id line why) fits =
    at_line (codes "killed") id.0 (codes "line" ␣ decimal line ␣ reason_text why) refl fits.0 (at_line (codes "line") line (reason_text why) refl fits.1 (reason_line why fits.2))
verdict_line verdict.Survived fits = refl
verdict_line (verdict.Undecided why) fits = spared_word (codes "undecided") (cause_text why) refl (cause_line why)

pub mutant_is_line : (k : ℕ) (mutant : MutantLine) → IsSmall k → FitsMutant mutant → IsLine (mutant_line k mutant)
mutant_is_line k mutant lt fits =
    at_line (codes "mutant") k (operator_text mutant.op ␣ decimal mutant.line ␣ verdict_text mutant.verdict) refl lt
    (at_line (operator_text mutant.op) mutant.line (verdict_text mutant.verdict) (operator_line mutant.op) fits.0 (verdict_line mutant.verdict fits.1))

pub total_is_line : (word : List ℕ) (some all : ℕ) → IsLine word → IsSmall some → IsSmall all → IsLine (total_line word some all)
total_is_line word some all w s a = at_line word some (codes "of" ␣ decimal all) w s (spared_word (codes "of") (decimal all) refl (number all a))

pub minimal_is_line : (minimal : Bool) → IsLine (minimal_line minimal)
minimal_is_line true = refl
minimal_is_line false = refl

pub word_number_is_line : (word : List ℕ) (n : ℕ) → IsLine word → IsSmall n → IsLine (word ␣ decimal n)
word_number_is_line word n w lt = spared_word word (decimal n) w (number n lt)

pub title_is_line : (version : ℕ) → IsSmall version → IsLine (title_line version)
title_is_line version lt = spared_word (codes "pynguin") (codes "report" ␣ decimal version) refl (word_number_is_line (codes "report") version refl lt)

pub module_is_line : (name : List ℕ) → is_name name ≡ true → IsLine (module_line name)
module_is_line name e = spared_word (codes "module") name refl (name_line name e)
