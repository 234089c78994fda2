-- What is kept of a test passes where a suite runs it: by induction over its steps.
use Rattle.std.proofs.Common.{◌≡◌, ℕ, zero, suc, ◌+◌, ◌||◌, Bool, true, List, [], ◌∷◌, length, refl, sym, ap, subst, ◌∙◌, Option, Some, None, Ok, Err, arith}
use Rattle.std.proofs.lemmas.Bool.{eq-eqb}
use Rattle.std.proofs.lemmas.Bool.Decides.{nat_tests}
use Rattle.std.specs.List.{list_any, zip}
use Rattle.std.specs.Option.{option_map}
use Rattle.std.specs.Prelude.{if◌then◌else◌, nat_lt, take}
use Rattle.pyn_base.specs.declared.class.ClassId.{ClassId}
use Rattle.pyn_base.specs.declared.class.ClassId.TheVariants.{Built, Own}
use Rattle.pyn_base.specs.declared.ids.ObjId.{ObjId}
use Rattle.py_meaning.specs.Values.{place_of_class, same_class}
use Rattle.py_meaning.specs.Worlds.{World}
use Rattle.py_plain.specs.declared.run.Abrupt.TheVariants as abrupt
use Rattle.py_plain.specs.declared.run.End.{End}
use Rattle.py_plain.specs.declared.run.End.TheVariants as end
use Rattle.py_plain.specs.declared.state.State.{State}
use Rattle.py_plain.specs.Classes.{derives, order_within}
use Rattle.py_plain.specs.Program.{Program}
use Rattle.py_plain.specs.Runs.{Finding, Outcome, Ran}
use Rattle.py_plain.specs.Statements.{means}
use Rattle.py_plain.specs.Tests.{Trail, end_of, recorder, run_statement}
use Rattle.report_model.specs.declared.lines.TestLine.TheVariants.{Passes}
use Rattle.suite_model.specs.declared.test.Step.{Step}
use Rattle.suite_model.specs.Kept.{Kept, kept_by, kept_from}
use Rattle.suite_model.specs.Statements.{right_of, statement_of, statements_from, variable}
use Rattle.suite_runs.specs.FileRun.{Does, FileStep, TestRun, after_raising, after_statement, bare, runs, steps_from}
use Rattle.case_laws.specs.Cases.{can_name, class_raised, has_class}
use Rattle.case_laws.specs.Laws.{AbruptAlone}

-- ---- a class that is there derives from itself

same_itself : (class : ClassId) → same_class class class ≡ true
same_itself (Built class) = eq-eqb (place_of_class class) (place_of_class class) refl
same_itself (Own k) = eq-eqb k k refl

abbrev within : ℕ → ClassId → Bool
within classes (Built class) = true
within classes (Own k) = nat_lt k classes

or_first : (a b : Bool) → a ≡ true → (a || b) ≡ true
or_first a b h = ap (λ c. c || b) h

if_true : {A : Type 0} (b : Bool) (x y : A) → b ≡ true → (if b then x else y) ≡ x
if_true b x y h = ap (λ c. if c then x else y) h

none_within : (k : ℕ) → nat_lt k 0 ≡ true → ⊥
none_within k h = grind (arith, nat_tests)

module _ (program : Program) where
  in_order : (n : ℕ) (class : ClassId) → within n class ≡ true → list_any (same_class class) (order_within program n class) ≡ true
  in_order zero (Built class) h = or_first _ _ (same_itself (Built class))
  in_order zero (Own k) h = absurd (none_within k h)
  in_order (suc n) (Built class) h = or_first _ _ (same_itself (Built class))
  in_order (suc n) (Own k) h = or_first _ _ (same_itself (Own k))

  there : (class : ClassId) → has_class program class ≡ true → within (length program.classes) class ≡ true
  there (Built class) h = refl
  there (Own k) h = h

  pub derives_itself : (class : ClassId) → has_class program class ≡ true → derives program class class ≡ true
  derives_itself class h = in_order (length program.classes) class (there class h)

-- ---- a statement that raises, without its variable

raised_object : (world : World) (o : Outcome Finding) (id : ObjId) (class : ClassId) → end_of world o ≡ end.Raised id class → o ≡ Err (abrupt.Raised id)
raised_object world (Ok x) id class h = absurd (cc)
raised_object world (Err (abrupt.Raised other)) id class h = cc
raised_object world (Err (abrupt.Returned x)) id class h = absurd (cc)
raised_object world (Err abrupt.Broke) id class h = absurd (cc)
raised_object world (Err abrupt.Continued) id class h = absurd (cc)
raised_object world (Err abrupt.OutOfSteps) id class h = absurd (cc)
raised_object world (Err (abrupt.Left construct)) id class h = absurd (cc)

module _ (alone : AbruptAlone Trail) (program : Program) (limit : ℕ) where
  abbrev does : ℕ → Step → State World Trail → End × State World Trail
  does k step s = run_statement recorder program limit (statement_of program k step) s

  raises_alone : (k : ℕ) (step : Step) (s : State World Trail) (id : ObjId) (class : ClassId)
      → (does k step s).0 ≡ end.Raised id class → run_statement recorder program limit (bare (right_of program step)) s ≡ does k step s
  raises_alone k step s id class h =
      let t : State World Trail = record s { left = limit } in
      let r = means recorder program (statement_of program k step) t in
      ap (λ (ran : Ran Trail Finding). (end_of ran.1.objects ran.0, ran.1))
      (alone recorder program (record { 0 = 0 }) 1 1 (variable k) None (right_of program step) t (abrupt.Raised id) (raised_object r.1.objects r.0 id class h))

  abbrev kept_steps_from : ℕ → List Step → State World Trail → Kept
  kept_steps_from k steps s = kept_from program limit (statements_from program k steps) s

  -- ---- nothing raises where no step is kept

  none_by : (e : End) (before after : State World Trail) (rest : Kept) (step : Step) (more : List Step)
      → let kept = kept_by limit e before after rest in take (length kept.used) (step ∷ more) ≡ [] → class_raised kept.end ≡ None
  none_by end.Normal before after rest step more h = absurd (cc)
  none_by (end.Raised id class) before after rest step more h = absurd (cc)
  none_by end.OutOfSteps before after rest step more h = refl
  none_by (end.Left construct) before after rest step more h = refl
  none_by end.Memory before after rest step more h = refl
  none_by (end.Ended stop) before after rest step more h = refl

  none_raises : (k : ℕ) (steps : List Step) (s : State World Trail) → let kept = kept_steps_from k steps s in take (length kept.used) steps ≡ [] → class_raised kept.end ≡ None
  none_raises k [] s h = refl
  none_raises k (step ∷ more) s h = let r = does k step s in none_by r.0 s r.1 (kept_steps_from (k + 1) more r.1) step more h

  -- ---- the first step of several

  no_class : (raises : Option (ℕ × ClassId)) → option_map (λ raises. raises.1) raises ≡ None → raises ≡ None
  no_class None h = refl
  no_class (Some raises) h = absurd (cc)

  first_does : (raises : Option (ℕ × ClassId)) (k : ℕ) (step : Step) (line : ℕ) (more : List Step) (lines : List ℕ) → length lines ≡ length more → (more ≡ [] → raises ≡ None)
      → steps_from program raises [] k ((step, line) ∷ zip more lines) ≡ Does line (statement_of program k step) ∷ steps_from program raises [] (k + 1) (zip more lines)
  first_does raises k step line [] lines h none =
      subst (λ raises. steps_from program raises [] k ((step, line) ∷ []) ≡ Does line (statement_of program k step) ∷ []) (sym (none refl)) refl
  first_does raises k step line (next ∷ more) [] h none = absurd (cc)
  first_does raises k step line (next ∷ more) (l ∷ lines) h none = refl

  -- ---- all steps

  abbrev good : Kept → TestRun
  good kept = record { outcome = Passes; trail = kept.trail }

  abbrev Good : Option (ℕ × ClassId) → ℕ → List Step → State World Trail → Kept → List ℕ → Type 0
  Good raises k steps s kept lines =
      length lines ≡ length (take (length kept.used) steps) → option_map (λ raises. raises.1) raises ≡ class_raised kept.end → can_name program (class_raised kept.end) ≡ true
      → runs program limit (steps_from program raises [] k (zip (take (length kept.used) steps) lines)) s ≡ good kept

  module _ (raises : Option (ℕ × ClassId)) where
    normal : (k : ℕ) (step : Step) (more : List Step) (s after : State World Trail) (lines : List ℕ) → does k step s ≡ (end.Normal, after)
        → ((ls : List ℕ) → Good raises (k + 1) more after (kept_steps_from (k + 1) more after) ls)
        → Good raises k (step ∷ more) s (kept_by limit end.Normal s after (kept_steps_from (k + 1) more after)) lines
    normal k step more s after [] is next lines class named = absurd (cc)
    normal k step more s after (line ∷ ls) is next lines class named =
        let rest = kept_steps_from (k + 1) more after in
        let kept = take (length rest.used) more in
        let fit : length ls ≡ length kept = omega (arith, lines) in
        let steps = steps_from program raises [] (k + 1) (zip kept ls) in
        ap (λ (steps : List FileStep). runs program limit steps s) (first_does raises k step line kept ls fit (λ none. no_class raises (class ∙ none_raises (k + 1) more after none)))
        ∙ ap (λ (r : End × State World Trail). after_statement program line r.0 r.1 (runs program limit steps)) is
        ∙ next ls fit class named

  raising : (raises : Option (ℕ × ClassId)) (k : ℕ) (step : Step) (more : List Step) (s after : State World Trail) (id : ObjId) (class : ClassId) (lines : List ℕ) (rest : Kept)
      → does k step s ≡ (end.Raised id class, after) → Good raises k (step ∷ more) s (kept_by limit (end.Raised id class) s after rest) lines
  raising raises k step more s after id class [] rest is lines raised named = absurd (cc)
  raising None k step more s after id class (line ∷ ls) rest is lines raised named = absurd (cc)
  raising (Some (block, wanted)) k step more s after id class (line ∷ ls) rest is lines raised named =
      let same : wanted ≡ class = cc in
      let first : (does k step s).0 ≡ end.Raised id class = ap (λ (r : End × State World Trail). r.0) is in
      ap (λ (r : End × State World Trail). after_raising program block wanted line r.0 r.1 (runs program limit [])) (raises_alone k step s id class first ∙ is)
      ∙ if_true _ _ _ (ap (derives program class) same ∙ derives_itself program class named)

  by_end : (raises : Option (ℕ × ClassId)) (k : ℕ) (step : Step) (more : List Step) (s after : State World Trail) (lines : List ℕ) (e : End) → does k step s ≡ (e, after)
      → ((ls : List ℕ) → Good raises (k + 1) more after (kept_steps_from (k + 1) more after) ls)
      → Good raises k (step ∷ more) s (kept_by limit e s after (kept_steps_from (k + 1) more after)) lines
  by_end raises k step more s after lines end.Normal is next = normal raises k step more s after lines is next
  by_end raises k step more s after lines (end.Raised id class) is next = raising raises k step more s after id class lines (kept_steps_from (k + 1) more after) is
  by_end raises k step more s after lines end.OutOfSteps is next = λ h raised named. refl
  by_end raises k step more s after lines (end.Left construct) is next = λ h raised named. refl
  by_end raises k step more s after lines end.Memory is next = λ h raised named. refl
  by_end raises k step more s after lines (end.Ended stop) is next = λ h raised named. refl

  pub kept_pass : (raises : Option (ℕ × ClassId)) (k : ℕ) (steps : List Step) (s : State World Trail) (lines : List ℕ) → Good raises k steps s (kept_steps_from k steps s) lines
  kept_pass raises k [] s lines = λ h raised named. refl
  kept_pass raises k (step ∷ more) s lines = let r = does k step s in by_end raises k step more s r.1 lines r.0 refl (λ ls. kept_pass raises (k + 1) more r.1 ls)
