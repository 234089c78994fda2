-- Where a walk over statements ends: after all of them, or at one that ends the test.
use Rattle.std.proofs.Common.{◌≡◌, sym, ap, subst, ◌∙◌, append-nil, arith, ℕ, ◌+◌, ◌-◌, ◌<◌, ◌≤◌, length, drop, get_or, Bool, List, [], ◌∷◌, ◌++◌, Some, Result, Ok}
use Rattle.std.proofs.lemmas.List.{at_drop_all, at_drop_more}
use Rattle.std.specs.Prelude.{if◌then◌else◌}
use Rattle.std.specs.Result.{is_ok}
use Rattle.py_syntax.specs.declared.stmt.Stmt.{Stmt}
use Rattle.py_meaning.specs.Worlds.{World}
use Rattle.py_plain.specs.declared.run.End.{End}
use Rattle.py_plain.specs.declared.run.End.TheVariants as end
use Rattle.py_plain.specs.declared.state.State.{State}
use Rattle.py_plain.specs.Program.{Program}
use Rattle.py_plain.specs.Runs.{Watcher}
use Rattle.py_plain.specs.Tests.{run_statement}
use Rattle.py_machine.specs.Ends.{EndsAs, UnlessMemory}
use Rattle.suite_model.specs.declared.test.TestEnd.{TestEnd}
use Rattle.suite_model.specs.declared.test.TestEnd.TheVariants as test_end
use Rattle.timed_marks.specs.Timed.{Timed}
use Rattle.test_run.specs.Watched.{Watched, Told, is_kept, end_after, ended, dropped, after_steps, kept_by, kept_for}

abbrev pub steps_with : Bool → List ℕ → ℕ → List ℕ
steps_with b used k = if b then used ++ k ∷ [] else used

pub pushed : {A E : Type 0} (r : Result A E) (x : A) (used items : List ℕ) (k : ℕ) → r ≡ Ok x → items ≡ (if is_ok r then used ++ k ∷ [] else used) → items ≡ used ++ k ∷ []
pushed {A} {E} r x used items k was is = is ∙ ap (λ (q : Result A E). if is_ok q then used ++ k ∷ [] else used) was

pub same_steps : {whole : Watched Timed} {us vs : List ℕ} {t : TestEnd} {at now : ℕ} {seen : Timed} → us ≡ vs → at ≡ now → Told whole us t at seen → Told whole vs t now seen
same_steps h k told = record { steps_are = sym h ∙ told.steps_are; end_is = told.end_is; clock_is = sym k ∙ told.clock_is; seen_is = told.seen_is }

-- when what is kept had ended, by whether the last statement is
abbrev pub clock_of : Bool → State World Timed → State World Timed → ℕ
clock_of b before after = if b then after.seen.clock else before.seen.clock

module _ (limit : ℕ) where
  all_kept : (used : List ℕ) (s : State World Timed) (whole : Watched Timed) → after_steps used (ended test_end.Ok s) ≡ whole → Told whole used test_end.Ok s.seen.clock s.seen
  all_kept used s whole h = record { steps_are = sym (append-nil used) ∙ ap (λ w. w.used) h; end_is = ap (λ w. w.end) h; clock_is = ap (λ w. w.seen.clock) h; seen_is = ap (λ w. w.all) h }

  -- a last statement that isn't kept
  none_more : (t : TestEnd) (used : List ℕ) (before after : State World Timed) (whole : Watched Timed) → after_steps used (dropped t before after) ≡ whole → Told whole used t before.seen.clock after.seen
  none_more t used before after whole h =
      record { steps_are = sym (append-nil used) ∙ ap (λ w. w.used) h; end_is = ap (λ w. w.end) h; clock_is = ap (λ w. w.seen.clock) h; seen_is = ap (λ w. w.all) h }

  by_end : (e : End) (t : TestEnd) (used : List ℕ) (k : ℕ) (before after : State World Timed) (rest whole : Watched Timed)
      → Some (Some t) ≡ end_after e → UnlessMemory e (k + after.left ≡ limit) → after_steps used (kept_by limit e before after rest) ≡ whole
      → Told whole (steps_with (is_kept t) used k) t (clock_of (is_kept t) before after) after.seen
  by_end end.Normal t used k before after rest whole is paid h = absurd (cc)
  by_end (end.Raised id class) t used k before after rest whole is paid h =
      let q : test_end.Raised class ≡ t = cc in
      let steps : k ≡ limit - after.left = omega (arith, paid) in
      subst (λ t. Told whole (steps_with (is_kept t) used k) t (clock_of (is_kept t) before after) after.seen) q
      (record { steps_are = ap (λ n. used ++ n ∷ []) steps ∙ ap (λ w. w.used) h; end_is = ap (λ w. w.end) h; clock_is = ap (λ w. w.seen.clock) h; seen_is = ap (λ w. w.all) h })
  by_end end.OutOfSteps t used k before after rest whole is paid h =
      let q : test_end.OutOfSteps ≡ t = cc in
      subst (λ t. Told whole (steps_with (is_kept t) used k) t (clock_of (is_kept t) before after) after.seen) q (none_more test_end.OutOfSteps used before after whole h)
  by_end (end.Left construct) t used k before after rest whole is paid h =
      let q : test_end.Left construct ≡ t = cc in
      subst (λ t. Told whole (steps_with (is_kept t) used k) t (clock_of (is_kept t) before after) after.seen) q (none_more (test_end.Left construct) used before after whole h)
  by_end end.Memory t used k before after rest whole is paid h = absurd (cc)
  by_end (end.Ended stop) t used k before after rest whole is paid h = absurd (cc)

  -- a statement that ends so is the meaning's, where something is told of its end
  is_meant : (e : End) (t : TestEnd) (after : State World Timed) (r : End × State World Timed) → Some (Some t) ≡ end_after e → EndsAs e after r → (e, after) ≡ r
  is_meant end.Normal t after r is ends = ends
  is_meant (end.Raised id class) t after r is ends = ends
  is_meant end.OutOfSteps t after r is ends = ends
  is_meant (end.Left construct) t after r is ends = ends
  is_meant end.Memory t after r is ends = absurd (cc)
  is_meant (end.Ended stop) t after r is ends = ends

  module _ (watcher : Watcher Timed) (program : Program) where
    pub walked_all : (used : List ℕ) (stmts : List Stmt) (at : ℕ) (s : State World Timed) (whole : Watched Timed) → length stmts ≤ at
        → after_steps used (kept_for watcher program limit (drop at stmts) s) ≡ whole → Told whole used test_end.Ok s.seen.clock s.seen
    walked_all used stmts at s whole past h = all_kept used s whole (sym (at_drop_all (λ xs. after_steps used (kept_for watcher program limit xs s)) stmts at past) ∙ h)

    pub walked_to : (e : End) (t : TestEnd) (used : List ℕ) (k : ℕ) (stmts : List Stmt) (at : ℕ) (stmt : Stmt) (before after : State World Timed) (whole : Watched Timed)
        → at < length stmts → stmt ≡ get_or stmts at stmt → after_steps used (kept_for watcher program limit (drop at stmts) before) ≡ whole
        → Some (Some t) ≡ end_after e → EndsAs e after (run_statement watcher program limit stmt before) → UnlessMemory e (k + after.left ≡ limit)
        → Told whole (steps_with (is_kept t) used k) t (clock_of (is_kept t) before after) after.seen
    walked_to e t used k stmts at stmt before after whole within item h is ends paid =
        let more = drop (at + 1) stmts in
        by_end e t used k before after (kept_for watcher program limit more after) whole is paid
        (ap (λ (r : End × State World Timed). after_steps used (kept_by limit r.0 before r.1 (kept_for watcher program limit more r.1))) (is_meant e t after _ is ends)
        ∙ ap (λ (x : Stmt). after_steps used (kept_for watcher program limit (x ∷ more) before)) item
        ∙ sym (at_drop_more (λ xs. after_steps used (kept_for watcher program limit xs before)) stmts at stmt within)
        ∙ h)
