-- The kinds of lines, both ways.
use Rattle.std.proofs.Common.{◌≡◌, ℕ, Bool, true, false, cond, List, Option, Some, None, decimal, codes, refl, ap, subst, ◌∙◌, inl, inr, bytes_eq}
use Rattle.std.specs.Prelude.{IfSome}
use Rattle.std.proofs.lemmas.Option.{same_Some, none-some}
use Rattle.pyn_base.specs.Construct.{text_of}
use Rattle.pyn_base.specs.declared.ids.TestId.{TestId}
use Rattle.report_model.specs.declared.lines.GoalLine.{GoalLine}
use Rattle.report_model.specs.declared.lines.MutantLine.{MutantLine}
use Rattle.report_model.specs.declared.lines.ShownKind.{ShownKind}
use Rattle.report_model.specs.declared.lines.ShownKind.TheVariants as kind
use Rattle.report_model.specs.declared.lines.TestLine.{TestLine}
use Rattle.report_model.specs.declared.lines.TestLine.TheVariants as test
use Rattle.report_model.specs.declared.mutant.Operator.{Operator}
use Rattle.report_model.specs.declared.mutant.Operator.TheVariants as op
use Rattle.report_model.specs.declared.mutant.Verdict.{Verdict}
use Rattle.report_model.specs.declared.mutant.Verdict.TheVariants as verdict
use Rattle.report_model.specs.declared.reason.Cause.{Cause}
use Rattle.report_model.specs.declared.reason.Cause.TheVariants as cause
use Rattle.report_model.specs.declared.reason.ShownReason.{ShownReason}
use Rattle.report_model.specs.declared.reason.ShownReason.TheVariants as reason
use Rattle.report_model.specs.Fields.{◌>>=◌, word_at, after, after_number, number_at, number_of, is_name, name_of, named}
use Rattle.report_model.specs.Fits.{IsSmall, FitsReason, FitsTest, FitsGoal, FitsVerdict, FitsMutant}
use Rattle.report_model.specs.LineForms.{test_id, title_of, module_of, steps_of, cap_of, raised_of, reason_of, left_of, cause_of, line_at, fails_of, stopped_of, end_by, end_of, test_of, covered_of, cover_of, goal_by, goal_of, killed_of, undecided_of, verdict_by, verdict_of, mutant_by, mutant_of, total_of, minimal_of}
use Rattle.report_model.specs.Lines.{title_line, module_line, steps_line, cap_line, reason_text, cause_text, end_text, test_line, kind_text, cover_text, goal_line, operator_text, verdict_text, mutant_line, total_line, minimal_line}
use Rattle.report_model.specs.Tables.{kinds, operators, constructs}
use Rattle.report_model.specs.Words.{◌␣◌}
use Rattle.report_model.proofs.ConstructLaws.{construct_again}
use Rattle.report_model.proofs.FieldLaws.{bind_some, chosen, same_bytes, spared, if_word_takes, if_word_again, word_takes, word_again, after_takes, after_again, number_takes, number_again, number_at_takes, number_at_again, after_number_takes, after_number_again, name_takes, name_again, named_takes}

-- a step that gives a value, and what comes of that
again : {A B : Type 0} (o : Option A) (f : A → Option B) (x : A) (z : Option B) → o ≡ Some x → f x ≡ z → (o >>= f) ≡ z
again o f x z e h = ap (λ p. p >>= f) e ∙ h

-- ---- tables

kind_spared : (k : ShownKind) → spared 32 (kind_text k) ≡ true
kind_spared kind.Entry = refl
kind_spared kind.True = refl
kind_spared kind.False = refl
kind_spared kind.Reached = refl

kind_again : (k : ShownKind) → named kind_text kinds (kind_text k) ≡ Some k
unfolding named
kind_again kind.Entry = refl
kind_again kind.True = refl
kind_again kind.False = refl
kind_again kind.Reached = refl

operator_spared : (o : Operator) → spared 32 (operator_text o) ≡ true
operator_spared op.Aod = refl
operator_spared op.Aor = refl
operator_spared op.Asr = refl
operator_spared op.Bcr = refl
operator_spared op.Coi = refl
operator_spared op.Crp = refl
operator_spared op.Ehd = refl
operator_spared op.Exs = refl
operator_spared op.Lcr = refl
operator_spared op.Ror = refl

operator_again : (o : Operator) → named operator_text operators (operator_text o) ≡ Some o
unfolding named
operator_again op.Aod = refl
operator_again op.Aor = refl
operator_again op.Asr = refl
operator_again op.Bcr = refl
operator_again op.Coi = refl
operator_again op.Crp = refl
operator_again op.Ehd = refl
operator_again op.Exs = refl
operator_again op.Lcr = refl
operator_again op.Ror = refl

-- ---- the head

pub title_takes : (version : ℕ) (line : List ℕ) (v : ℕ) → title_of version line ≡ Some v → line ≡ title_line version
unfolding title_of
title_takes version line v e = (if_word_takes (title_line version) line version v e).0

pub title_again : (version : ℕ) → title_of version (title_line version) ≡ Some version
unfolding title_of
title_again version = if_word_again (title_line version) version

pub module_takes : (line name : List ℕ) → module_of line ≡ Some name → (line ≡ module_line name) × (is_name name ≡ true)
unfolding module_of
module_takes line name e =
    let a = bind_some (after (codes "module") line) name_of name e in
    let n = name_takes a.0 name a.2 in
    (after_takes (codes "module") line a.0 a.1 ∙ ap (λ x. codes "module" ␣ x) n.0, n.1)

pub module_again : (name : List ℕ) → is_name name ≡ true → module_of (module_line name) ≡ Some name
unfolding module_of
module_again name e = again (after (codes "module") (module_line name)) name_of name (Some name) (after_again (codes "module") name refl) (name_again name e)

numbered_takes : (word line : List ℕ) (n : ℕ) → (after word line >>= number_of) ≡ Some n → (line ≡ word ␣ decimal n) × IsSmall n
numbered_takes word line n e =
    let a = bind_some (after word line) number_of n e in
    let t = number_takes a.0 n a.2 in
    (after_takes word line a.0 a.1 ∙ ap (λ x. word ␣ x) t.0, t.1)

numbered_again : (word : List ℕ) (n : ℕ) → spared 32 word ≡ true → IsSmall n → (after word (word ␣ decimal n) >>= number_of) ≡ Some n
numbered_again word n e lt = again (after word (word ␣ decimal n)) number_of (decimal n) (Some n) (after_again word (decimal n) e) (number_again n lt)

pub steps_takes : (line : List ℕ) (n : ℕ) → steps_of line ≡ Some n → (line ≡ steps_line n) × IsSmall n
unfolding steps_of
steps_takes line n e = numbered_takes (codes "steps") line n e

pub steps_again : (n : ℕ) → IsSmall n → steps_of (steps_line n) ≡ Some n
unfolding steps_of
steps_again n lt = numbered_again (codes "steps") n refl lt

pub cap_takes : (line : List ℕ) (n : ℕ) → cap_of line ≡ Some n → (line ≡ cap_line n) × IsSmall n
unfolding cap_of
cap_takes line n e = numbered_takes (codes "mutants") line n e

pub cap_again : (n : ℕ) → IsSmall n → cap_of (cap_line n) ≡ Some n
unfolding cap_of
cap_again n lt = numbered_again (codes "mutants") n refl lt

-- ---- reasons and causes

raised_takes : (text : List ℕ) (why : ShownReason) → raised_of text ≡ Some why → (text ≡ reason_text why) × FitsReason why
unfolding raised_of
raised_takes text why e =
    let a = bind_some (after (codes "raised") text) (λ rest. name_of rest >>= λ class. Some (reason.Raised class)) why e in
    let b = bind_some (name_of a.0) (λ class. Some (reason.Raised class)) why a.2 in
    let n = name_takes a.0 b.0 b.1 in
    subst (λ (y : ShownReason). (text ≡ reason_text y) × FitsReason y) (same_Some (reason.Raised b.0) why b.2)
    (after_takes (codes "raised") text a.0 a.1 ∙ ap (λ x. codes "raised" ␣ x) n.0, n.1)

pub reason_takes : (text : List ℕ) (why : ShownReason) → reason_of text ≡ Some why → (text ≡ reason_text why) × FitsReason why
unfolding reason_of
reason_takes text why e =
    let Result : ShownReason → Type 0 = λ y. (text ≡ reason_text y) × FitsReason y in
    elim (chosen (bytes_eq text (codes "assert")) (Some reason.Assert) (cond (bytes_eq text (codes "not raised")) (Some reason.NotRaised) (raised_of text)) (Some why) e) [
      | inl h ↦ subst Result (same_Some reason.Assert why h.1) (same_bytes text (codes "assert") h.0, tt)
      | inr h ↦ elim (chosen (bytes_eq text (codes "not raised")) (Some reason.NotRaised) (raised_of text) (Some why) h.1) [
        | inl g ↦ subst Result (same_Some reason.NotRaised why g.1) (same_bytes text (codes "not raised") g.0, tt)
        | inr g ↦ raised_takes text why g.1
      ]
    ]

pub reason_again : (why : ShownReason) → FitsReason why → reason_of (reason_text why) ≡ Some why
unfolding reason_of raised_of
reason_again reason.Assert fits = refl
reason_again (reason.Raised class) fits =
    again (after (codes "raised") (codes "raised" ␣ class)) (λ rest. name_of rest >>= λ class. Some (reason.Raised class)) class (Some (reason.Raised class)) (after_again (codes "raised") class refl)
    (again (name_of class) (λ class. Some (reason.Raised class)) class (Some (reason.Raised class)) (name_again class fits) refl)
reason_again reason.NotRaised fits = refl

left_takes : (text : List ℕ) (why : Cause) → left_of text ≡ Some why → text ≡ cause_text why
unfolding left_of
left_takes text why e =
    let a = bind_some (after (codes "left") text) (λ rest. named text_of constructs rest >>= λ construct. Some (cause.Left construct)) why e in
    let b = bind_some (named text_of constructs a.0) (λ construct. Some (cause.Left construct)) why a.2 in
    subst (λ (y : Cause). text ≡ cause_text y) (same_Some (cause.Left b.0) why b.2)
    (after_takes (codes "left") text a.0 a.1 ∙ ap (λ x. codes "left" ␣ x) (named_takes text_of constructs a.0 b.0 b.1))

pub cause_takes : (text : List ℕ) (why : Cause) → cause_of text ≡ Some why → text ≡ cause_text why
unfolding cause_of
cause_takes text why e =
    elim (chosen (bytes_eq text (codes "steps")) (Some cause.Steps) (left_of text) (Some why) e) [
      | inl h ↦ same_bytes text (codes "steps") h.0 ∙ ap cause_text (same_Some cause.Steps why h.1)
      | inr h ↦ left_takes text why h.1
    ]

pub cause_again : (why : Cause) → cause_of (cause_text why) ≡ Some why
unfolding cause_of left_of
cause_again cause.Steps = refl
cause_again (cause.Left construct) =
    again (after (codes "left") (codes "left" ␣ text_of construct)) (λ rest. named text_of constructs rest >>= λ construct. Some (cause.Left construct)) (text_of construct) (Some (cause.Left construct)) (after_again (codes "left") (text_of construct) refl)
    (again (named text_of constructs (text_of construct)) (λ construct. Some (cause.Left construct)) construct (Some (cause.Left construct)) (construct_again construct) refl)

line_takes : (text : List ℕ) (at : ℕ × List ℕ) → line_at text ≡ Some at → (text ≡ codes "line" ␣ decimal at.0 ␣ at.1) × IsSmall at.0
unfolding line_at
line_takes text at e =
    let a = bind_some (after (codes "line") text) number_at at e in
    let t = number_at_takes a.0 at a.2 in
    (after_takes (codes "line") text a.0 a.1 ∙ ap (λ x. codes "line" ␣ x) t.0, t.1)

line_again : (n : ℕ) (rest : List ℕ) → IsSmall n → line_at (codes "line" ␣ decimal n ␣ rest) ≡ Some (n, rest)
unfolding line_at
line_again n rest lt =
    again (after (codes "line") (codes "line" ␣ decimal n ␣ rest)) number_at (decimal n ␣ rest) (Some (n, rest)) (after_again (codes "line") (decimal n ␣ rest) refl) (number_at_again n rest lt)

-- ---- tests

fails_takes : (text : List ℕ) (t : TestLine) → fails_of text ≡ Some t → (codes "fails" ␣ text ≡ end_text t) × FitsTest t
unfolding fails_of
fails_takes text t e =
    let a = bind_some (line_at text) (λ at. reason_of at.1 >>= λ why. Some (test.Fails at.0 why)) t e in
    let b = bind_some (reason_of a.0.1) (λ why. Some (test.Fails a.0.0 why)) t a.2 in
    let l = line_takes text a.0 a.1 in
    let r = reason_takes a.0.1 b.0 b.1 in
    subst (λ (y : TestLine). (codes "fails" ␣ text ≡ end_text y) × FitsTest y) (same_Some (test.Fails a.0.0 b.0) t b.2)
    (ap (λ x. codes "fails" ␣ x) (l.0 ∙ ap (λ x. codes "line" ␣ decimal a.0.0 ␣ x) r.0), (l.1, r.1))

stopped_takes : (text : List ℕ) (t : TestLine) → stopped_of text ≡ Some t → (codes "stopped" ␣ text ≡ end_text t) × FitsTest t
unfolding stopped_of
stopped_takes text t e =
    let a = bind_some (line_at text) (λ at. cause_of at.1 >>= λ why. Some (test.Stopped at.0 why)) t e in
    let b = bind_some (cause_of a.0.1) (λ why. Some (test.Stopped a.0.0 why)) t a.2 in
    let l = line_takes text a.0 a.1 in
    subst (λ (y : TestLine). (codes "stopped" ␣ text ≡ end_text y) × FitsTest y) (same_Some (test.Stopped a.0.0 b.0) t b.2)
    (ap (λ x. codes "stopped" ␣ x) (l.0 ∙ ap (λ x. codes "line" ␣ decimal a.0.0 ␣ x) (cause_takes a.0.1 b.0 b.1)), l.1)

end_takes : (text : List ℕ) (t : TestLine) → end_of text ≡ Some t → (text ≡ end_text t) × FitsTest t
unfolding end_of
end_takes text t e =
    let Is : TestLine → Type 0 = λ y. (text ≡ end_text y) × FitsTest y in
    elim (chosen (bytes_eq text (codes "passes")) (Some test.Passes) (word_at text >>= end_by) (Some t) e) [
      | inl h ↦ subst Is (same_Some test.Passes t h.1) (same_bytes text (codes "passes") h.0, tt)
      | inr h ↦
          let w = bind_some (word_at text) end_by t h.1 in
          let split = word_takes text w.0 w.1 in
          elim (chosen (bytes_eq w.0.0 (codes "fails")) (fails_of w.0.1) (cond (bytes_eq w.0.0 (codes "stopped")) (stopped_of w.0.1) None) (Some t) w.2) [
            | inl g ↦
                let f = fails_takes w.0.1 t g.1 in
                (split ∙ ap (λ x. x ␣ w.0.1) (same_bytes w.0.0 (codes "fails") g.0) ∙ f.0, f.1)
            | inr g ↦ elim (chosen (bytes_eq w.0.0 (codes "stopped")) (stopped_of w.0.1) None (Some t) g.1) [
              | inl s ↦
                  let f = stopped_takes w.0.1 t s.1 in
                  (split ∙ ap (λ x. x ␣ w.0.1) (same_bytes w.0.0 (codes "stopped") s.0) ∙ f.0, f.1)
              | inr s ↦ absurd (none-some t s.1)
            ]
          ]
    ]

end_again : (t : TestLine) → FitsTest t → end_of (end_text t) ≡ Some t
unfolding end_of fails_of stopped_of
end_again test.Passes fits = refl
end_again (test.Fails line why) fits =
    again (line_at (codes "line" ␣ decimal line ␣ reason_text why)) (λ at. reason_of at.1 >>= λ why. Some (test.Fails at.0 why)) (line, reason_text why) (Some (test.Fails line why)) (line_again line (reason_text why) fits.0)
    (again (reason_of (reason_text why)) (λ why. Some (test.Fails line why)) why (Some (test.Fails line why)) (reason_again why fits.1) refl)
end_again (test.Stopped line why) fits =
    again (line_at (codes "line" ␣ decimal line ␣ cause_text why)) (λ at. cause_of at.1 >>= λ why. Some (test.Stopped at.0 why)) (line, cause_text why) (Some (test.Stopped line why)) (line_again line (cause_text why) fits)
    (again (cause_of (cause_text why)) (λ why. Some (test.Stopped line why)) why (Some (test.Stopped line why)) (cause_again why) refl)

-- a line that begins with a word and a number
headed_takes : {A : Type 0} (word : List ℕ) (k : ℕ) (line : List ℕ) (f : List ℕ → Option A) (x : A) → (after word line >>= after_number k >>= f) ≡ Some x → (rest : List ℕ) × (line ≡ word ␣ decimal k ␣ rest) × IsSmall k × (f rest ≡ Some x)
headed_takes word k line f x e =
    let b = bind_some (after word line >>= after_number k) f x e in
    let a = bind_some (after word line) (after_number k) b.0 b.1 in
    let n = after_number_takes k a.0 b.0 a.2 in
    (b.0, after_takes word line a.0 a.1 ∙ ap (λ y. word ␣ y) n.0, n.1, b.2)

headed_again : {A : Type 0} (word : List ℕ) (k : ℕ) (rest : List ℕ) (f : List ℕ → Option A) (x : Option A) → spared 32 word ≡ true → IsSmall k → f rest ≡ x → (after word (word ␣ decimal k ␣ rest) >>= after_number k >>= f) ≡ x
headed_again word k rest f x e lt h =
    again (after word (word ␣ decimal k ␣ rest) >>= after_number k) f rest x
    (again (after word (word ␣ decimal k ␣ rest)) (after_number k) (decimal k ␣ rest) (Some rest) (after_again word (decimal k ␣ rest) e) (after_number_again k rest lt)) h

pub test_takes : (k : ℕ) (line : List ℕ) (t : TestLine) → test_of k line ≡ Some t → (line ≡ test_line k t) × IsSmall k × FitsTest t
unfolding test_of
test_takes k line t e =
    let h = headed_takes (codes "test") k line end_of t e in
    let r = end_takes h.0 t h.3 in
    (h.1 ∙ ap (λ x. codes "test" ␣ decimal k ␣ x) r.0, h.2, r.1)

pub test_again : (k : ℕ) (t : TestLine) → IsSmall k → FitsTest t → test_of k (test_line k t) ≡ Some t
unfolding test_of
test_again k t lt fits = headed_again (codes "test") k (end_text t) end_of (Some t) refl lt (end_again t fits)

-- ---- goals

covered_takes : (text : List ℕ) (by : Option TestId) → covered_of text ≡ Some by → (text ≡ cover_text by) × IfSome by (λ id. IsSmall id.0)
unfolding covered_of
covered_takes text by e =
    let a = bind_some (after (codes "covered") text) (λ rest. number_of rest >>= λ k. Some (Some (test_id k))) by e in
    let b = bind_some (number_of a.0) (λ k. Some (Some (test_id k))) by a.2 in
    let n = number_takes a.0 b.0 b.1 in
    subst (λ (y : Option TestId). (text ≡ cover_text y) × IfSome y (λ id. IsSmall id.0)) (same_Some (Some (test_id b.0)) by b.2)
    (after_takes (codes "covered") text a.0 a.1 ∙ ap (λ x. codes "covered" ␣ x) n.0, n.1)

cover_takes : (text : List ℕ) (by : Option TestId) → cover_of text ≡ Some by → (text ≡ cover_text by) × IfSome by (λ id. IsSmall id.0)
unfolding cover_of
cover_takes text by e =
    let nothing : Option TestId = None in
    elim (chosen (bytes_eq text (codes "missed")) (Some nothing) (covered_of text) (Some by) e) [
      | inl h ↦ subst (λ (y : Option TestId). (text ≡ cover_text y) × IfSome y (λ id. IsSmall id.0)) (same_Some nothing by h.1) (same_bytes text (codes "missed") h.0, tt)
      | inr h ↦ covered_takes text by h.1
    ]

cover_again : (by : Option TestId) → IfSome by (λ id. IsSmall id.0) → cover_of (cover_text by) ≡ Some by
unfolding cover_of covered_of
cover_again None fits = refl
cover_again (Some id) fits =
    again (after (codes "covered") (codes "covered" ␣ decimal id.0)) (λ rest. number_of rest >>= λ k. Some (Some (test_id k))) (decimal id.0) (Some (Some id)) (after_again (codes "covered") (decimal id.0) refl)
    (again (number_of (decimal id.0)) (λ k. Some (Some (test_id k))) id.0 (Some (Some id)) (number_again id.0 fits) refl)

-- what is after a goal's number
abbrev goal_end : GoalLine → List ℕ
goal_end goal = kind_text goal.kind ␣ decimal goal.line ␣ cover_text goal.by

goal_end_takes : (text : List ℕ) (goal : GoalLine) → goal_by text ≡ Some goal → (text ≡ goal_end goal) × FitsGoal goal
unfolding goal_by
goal_end_takes text goal e =
    let w = bind_some (word_at text) (λ word. named kind_text kinds word.0 >>= λ k. number_at word.1 >>= λ line. cover_of line.1 >>= λ by. Some (record { kind = k; line = line.0; by = by })) goal e in
    let k = bind_some (named kind_text kinds w.0.0) (λ k. number_at w.0.1 >>= λ line. cover_of line.1 >>= λ by. Some (record { kind = k; line = line.0; by = by })) goal w.2 in
    let l = bind_some (number_at w.0.1) (λ line. cover_of line.1 >>= λ by. Some (record { kind = k.0; line = line.0; by = by })) goal k.2 in
    let b = bind_some (cover_of l.0.1) (λ by. Some (record { kind = k.0; line = l.0.0; by = by })) goal l.2 in
    let n = number_at_takes w.0.1 l.0 l.1 in
    let c = cover_takes l.0.1 b.0 b.1 in
    let made : GoalLine = record { kind = k.0; line = l.0.0; by = b.0 } in
    subst (λ (y : GoalLine). (text ≡ goal_end y) × FitsGoal y) (same_Some made goal b.2)
    (word_takes text w.0 w.1 ∙ ap (λ x. x ␣ w.0.1) (named_takes kind_text kinds w.0.0 k.0 k.1) ∙ ap (λ x. kind_text k.0 ␣ x) (n.0 ∙ ap (λ x. decimal l.0.0 ␣ x) c.0), (n.1, c.1))

goal_end_again : (goal : GoalLine) → FitsGoal goal → goal_by (goal_end goal) ≡ Some goal
unfolding goal_by
goal_end_again goal fits =
    let rest = decimal goal.line ␣ cover_text goal.by in
    again (word_at (goal_end goal)) (λ word. named kind_text kinds word.0 >>= λ k. number_at word.1 >>= λ line. cover_of line.1 >>= λ by. Some (record { kind = k; line = line.0; by = by })) (kind_text goal.kind, rest) (Some goal) (word_again (kind_text goal.kind) rest (kind_spared goal.kind))
    (again (named kind_text kinds (kind_text goal.kind)) (λ k. number_at rest >>= λ line. cover_of line.1 >>= λ by. Some (record { kind = k; line = line.0; by = by })) goal.kind (Some goal) (kind_again goal.kind)
    (again (number_at rest) (λ line. cover_of line.1 >>= λ by. Some (record { kind = goal.kind; line = line.0; by = by })) (goal.line, cover_text goal.by) (Some goal) (number_at_again goal.line (cover_text goal.by) fits.0)
    (again (cover_of (cover_text goal.by)) (λ by. Some (record { kind = goal.kind; line = goal.line; by = by })) goal.by (Some goal) (cover_again goal.by fits.1) refl)))

pub goal_takes : (k : ℕ) (line : List ℕ) (goal : GoalLine) → goal_of k line ≡ Some goal → (line ≡ goal_line k goal) × IsSmall k × FitsGoal goal
unfolding goal_of
goal_takes k line goal e =
    let h = headed_takes (codes "goal") k line goal_by goal e in
    let r = goal_end_takes h.0 goal h.3 in
    (h.1 ∙ ap (λ x. codes "goal" ␣ decimal k ␣ x) r.0, h.2, r.1)

pub goal_again : (k : ℕ) (goal : GoalLine) → IsSmall k → FitsGoal goal → goal_of k (goal_line k goal) ≡ Some goal
unfolding goal_of
goal_again k goal lt fits = headed_again (codes "goal") k (goal_end goal) goal_by (Some goal) refl lt (goal_end_again goal fits)

-- ---- mutants

killed_takes : (text : List ℕ) (v : Verdict) → killed_of text ≡ Some v → (codes "killed" ␣ text ≡ verdict_text v) × FitsVerdict v
unfolding killed_of
killed_takes text v e =
    let i = bind_some (number_at text) (λ id. line_at id.1 >>= λ line. reason_of line.1 >>= λ why. Some (verdict.Killed (test_id id.0) line.0 why)) v e in
    let l = bind_some (line_at i.0.1) (λ line. reason_of line.1 >>= λ why. Some (verdict.Killed (test_id i.0.0) line.0 why)) v i.2 in
    let r = bind_some (reason_of l.0.1) (λ why. Some (verdict.Killed (test_id i.0.0) l.0.0 why)) v l.2 in
    let n = number_at_takes text i.0 i.1 in
    let m = line_takes i.0.1 l.0 l.1 in
    let w = reason_takes l.0.1 r.0 r.1 in
    subst (λ (y : Verdict). (codes "killed" ␣ text ≡ verdict_text y) × FitsVerdict y) (same_Some (verdict.Killed (test_id i.0.0) l.0.0 r.0) v r.2)
    (ap (λ x. codes "killed" ␣ x) (n.0 ∙ ap (λ x. decimal i.0.0 ␣ x) (m.0 ∙ ap (λ x. codes "line" ␣ decimal l.0.0 ␣ x) w.0)), (n.1, m.1, w.1))

undecided_takes : (text : List ℕ) (v : Verdict) → undecided_of text ≡ Some v → (codes "undecided" ␣ text ≡ verdict_text v) × FitsVerdict v
unfolding undecided_of
undecided_takes text v e =
    let c = bind_some (cause_of text) (λ why. Some (verdict.Undecided why)) v e in
    subst (λ (y : Verdict). (codes "undecided" ␣ text ≡ verdict_text y) × FitsVerdict y) (same_Some (verdict.Undecided c.0) v c.2)
    (ap (λ x. codes "undecided" ␣ x) (cause_takes text c.0 c.1), tt)

verdict_takes : (text : List ℕ) (v : Verdict) → verdict_of text ≡ Some v → (text ≡ verdict_text v) × FitsVerdict v
unfolding verdict_of
verdict_takes text v e =
    elim (chosen (bytes_eq text (codes "survived")) (Some verdict.Survived) (word_at text >>= verdict_by) (Some v) e) [
      | inl h ↦ subst (λ (y : Verdict). (text ≡ verdict_text y) × FitsVerdict y) (same_Some verdict.Survived v h.1) (same_bytes text (codes "survived") h.0, tt)
      | inr h ↦
          let w = bind_some (word_at text) verdict_by v h.1 in
          let split = word_takes text w.0 w.1 in
          elim (chosen (bytes_eq w.0.0 (codes "killed")) (killed_of w.0.1) (cond (bytes_eq w.0.0 (codes "undecided")) (undecided_of w.0.1) None) (Some v) w.2) [
            | inl g ↦
                let f = killed_takes w.0.1 v g.1 in
                (split ∙ ap (λ x. x ␣ w.0.1) (same_bytes w.0.0 (codes "killed") g.0) ∙ f.0, f.1)
            | inr g ↦ elim (chosen (bytes_eq w.0.0 (codes "undecided")) (undecided_of w.0.1) None (Some v) g.1) [
              | inl s ↦
                  let f = undecided_takes w.0.1 v s.1 in
                  (split ∙ ap (λ x. x ␣ w.0.1) (same_bytes w.0.0 (codes "undecided") s.0) ∙ f.0, f.1)
              | inr s ↦ absurd (none-some v s.1)
            ]
          ]
    ]

verdict_again : (v : Verdict) → FitsVerdict v → verdict_of (verdict_text v) ≡ Some v
unfolding verdict_of killed_of undecided_of
verdict_again (verdict.Killed id line why) fits =
    let rest = codes "line" ␣ decimal line ␣ reason_text why in
    again (number_at (decimal id.0 ␣ rest)) (λ id. line_at id.1 >>= λ line. reason_of line.1 >>= λ why. Some (verdict.Killed (test_id id.0) line.0 why)) (id.0, rest) (Some (verdict.Killed id line why)) (number_at_again id.0 rest fits.0)
    (again (line_at rest) (λ line. reason_of line.1 >>= λ why. Some (verdict.Killed id line.0 why)) (line, reason_text why) (Some (verdict.Killed id line why)) (line_again line (reason_text why) fits.1)
    (again (reason_of (reason_text why)) (λ why. Some (verdict.Killed id line why)) why (Some (verdict.Killed id line why)) (reason_again why fits.2) refl))
verdict_again verdict.Survived fits = refl
verdict_again (verdict.Undecided why) fits = again (cause_of (cause_text why)) (λ why. Some (verdict.Undecided why)) why (Some (verdict.Undecided why)) (cause_again why) refl

-- what is after a mutant's number
abbrev mutant_end : MutantLine → List ℕ
mutant_end mutant = operator_text mutant.op ␣ decimal mutant.line ␣ verdict_text mutant.verdict

mutant_end_takes : (text : List ℕ) (mutant : MutantLine) → mutant_by text ≡ Some mutant → (text ≡ mutant_end mutant) × FitsMutant mutant
unfolding mutant_by
mutant_end_takes text mutant e =
    let w = bind_some (word_at text) (λ word. named operator_text operators word.0 >>= λ op. number_at word.1 >>= λ line. verdict_of line.1 >>= λ v. Some (record { op = op; line = line.0; verdict = v })) mutant e in
    let o = bind_some (named operator_text operators w.0.0) (λ op. number_at w.0.1 >>= λ line. verdict_of line.1 >>= λ v. Some (record { op = op; line = line.0; verdict = v })) mutant w.2 in
    let l = bind_some (number_at w.0.1) (λ line. verdict_of line.1 >>= λ v. Some (record { op = o.0; line = line.0; verdict = v })) mutant o.2 in
    let b = bind_some (verdict_of l.0.1) (λ v. Some (record { op = o.0; line = l.0.0; verdict = v })) mutant l.2 in
    let n = number_at_takes w.0.1 l.0 l.1 in
    let v = verdict_takes l.0.1 b.0 b.1 in
    let made : MutantLine = record { op = o.0; line = l.0.0; verdict = b.0 } in
    subst (λ (y : MutantLine). (text ≡ mutant_end y) × FitsMutant y) (same_Some made mutant b.2)
    (word_takes text w.0 w.1 ∙ ap (λ x. x ␣ w.0.1) (named_takes operator_text operators w.0.0 o.0 o.1) ∙ ap (λ x. operator_text o.0 ␣ x) (n.0 ∙ ap (λ x. decimal l.0.0 ␣ x) v.0), (n.1, v.1))

mutant_end_again : (mutant : MutantLine) → FitsMutant mutant → mutant_by (mutant_end mutant) ≡ Some mutant
unfolding mutant_by
mutant_end_again mutant fits =
    let rest = decimal mutant.line ␣ verdict_text mutant.verdict in
    again (word_at (mutant_end mutant)) (λ word. named operator_text operators word.0 >>= λ op. number_at word.1 >>= λ line. verdict_of line.1 >>= λ v. Some (record { op = op; line = line.0; verdict = v })) (operator_text mutant.op, rest) (Some mutant) (word_again (operator_text mutant.op) rest (operator_spared mutant.op))
    (again (named operator_text operators (operator_text mutant.op)) (λ op. number_at rest >>= λ line. verdict_of line.1 >>= λ v. Some (record { op = op; line = line.0; verdict = v })) mutant.op (Some mutant) (operator_again mutant.op)
    (again (number_at rest) (λ line. verdict_of line.1 >>= λ v. Some (record { op = mutant.op; line = line.0; verdict = v })) (mutant.line, verdict_text mutant.verdict) (Some mutant) (number_at_again mutant.line (verdict_text mutant.verdict) fits.0)
    (again (verdict_of (verdict_text mutant.verdict)) (λ v. Some (record { op = mutant.op; line = mutant.line; verdict = v })) mutant.verdict (Some mutant) (verdict_again mutant.verdict fits.1) refl)))

pub mutant_takes : (k : ℕ) (line : List ℕ) (mutant : MutantLine) → mutant_of k line ≡ Some mutant → (line ≡ mutant_line k mutant) × IsSmall k × FitsMutant mutant
unfolding mutant_of
mutant_takes k line mutant e =
    let h = headed_takes (codes "mutant") k line mutant_by mutant e in
    let r = mutant_end_takes h.0 mutant h.3 in
    (h.1 ∙ ap (λ x. codes "mutant" ␣ decimal k ␣ x) r.0, h.2, r.1)

pub mutant_again : (k : ℕ) (mutant : MutantLine) → IsSmall k → FitsMutant mutant → mutant_of k (mutant_line k mutant) ≡ Some mutant
unfolding mutant_of
mutant_again k mutant lt fits = headed_again (codes "mutant") k (mutant_end mutant) mutant_by (Some mutant) refl lt (mutant_end_again mutant fits)

-- ---- the end

pub total_takes : (word line : List ℕ) (t : ℕ × ℕ) → total_of word line ≡ Some t → (line ≡ total_line word t.0 t.1) × IsSmall t.0 × IsSmall t.1
unfolding total_of
total_takes word line t e =
    let a = bind_some (after word line) (λ rest. number_at rest >>= λ some. after (codes "of") some.1 >>= λ of. number_of of >>= λ all. Some (some.0, all)) t e in
    let s = bind_some (number_at a.0) (λ some. after (codes "of") some.1 >>= λ of. number_of of >>= λ all. Some (some.0, all)) t a.2 in
    let o = bind_some (after (codes "of") s.0.1) (λ of. number_of of >>= λ all. Some (s.0.0, all)) t s.2 in
    let n = bind_some (number_of o.0) (λ all. Some (s.0.0, all)) t o.2 in
    let first = number_at_takes a.0 s.0 s.1 in
    let second = number_takes o.0 n.0 n.1 in
    let made : ℕ × ℕ = (s.0.0, n.0) in
    subst (λ (y : ℕ × ℕ). (line ≡ total_line word y.0 y.1) × IsSmall y.0 × IsSmall y.1) (same_Some made t n.2)
    (after_takes word line a.0 a.1 ∙ ap (λ x. word ␣ x) (first.0 ∙ ap (λ x. decimal s.0.0 ␣ x) (after_takes (codes "of") s.0.1 o.0 o.1 ∙ ap (λ x. codes "of" ␣ x) second.0)), first.1, second.1)

pub total_again : (word : List ℕ) (some all : ℕ) → spared 32 word ≡ true → IsSmall some → IsSmall all → total_of word (total_line word some all) ≡ Some (some, all)
unfolding total_of
total_again word some all e small fits =
    let rest = codes "of" ␣ decimal all in
    again (after word (total_line word some all)) (λ rest. number_at rest >>= λ some. after (codes "of") some.1 >>= λ of. number_of of >>= λ all. Some (some.0, all)) (decimal some ␣ rest) (Some (some, all)) (after_again word (decimal some ␣ rest) e)
    (again (number_at (decimal some ␣ rest)) (λ some. after (codes "of") some.1 >>= λ of. number_of of >>= λ all. Some (some.0, all)) (some, rest) (Some (some, all)) (number_at_again some rest small)
    (again (after (codes "of") rest) (λ of. number_of of >>= λ all. Some (some, all)) (decimal all) (Some (some, all)) (after_again (codes "of") (decimal all) refl)
    (again (number_of (decimal all)) (λ all. Some (some, all)) all (Some (some, all)) (number_again all fits) refl)))

pub minimal_takes : (line : List ℕ) (minimal : Bool) → minimal_of line ≡ Some minimal → line ≡ minimal_line minimal
unfolding minimal_of
minimal_takes line minimal e =
    elim (chosen (bytes_eq line (codes "minimal yes")) (Some true) (cond (bytes_eq line (codes "minimal no")) (Some false) None) (Some minimal) e) [
      | inl h ↦ same_bytes line (codes "minimal yes") h.0 ∙ ap minimal_line (same_Some true minimal h.1)
      | inr h ↦ elim (chosen (bytes_eq line (codes "minimal no")) (Some false) None (Some minimal) h.1) [
        | inl g ↦ same_bytes line (codes "minimal no") g.0 ∙ ap minimal_line (same_Some false minimal g.1)
        | inr g ↦ absurd (none-some minimal g.1)
      ]
    ]

pub minimal_again : (minimal : Bool) → minimal_of (minimal_line minimal) ≡ Some minimal
unfolding minimal_of
minimal_again true = refl
minimal_again false = refl
