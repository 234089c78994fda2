use Rattle.std.proofs.Common.{refl, sym, ap, ◌∙◌, ℕ, Bool, Some, ◌++◌, ◌∷◌, [], Vec, Global}
use Rattle.timed_marks.specs.Timed.{Timed, timer}
use Rattle.test_run.proofs.Walked.{clock_of, pushed, same_steps, walked_all, walked_to, steps_with}
use Rattle.test_run.proofs.steps.run_steps.Goals.{then-is_kept+in_ok-push-in-Some, else-is_kept}
use Rattle.test_run.proofs.steps.run_steps.Goals as goal

pub returns-in-Some : goal.returns-in-Some
returns-in-Some c =
    let s = c.run_statement-end in
    let told = walked_to c.args.limit timer c.loop-stmt.machine.tables.now s.result c.in-Some.end c.loop-stmt.used.items s.new.self.used c.args.stmts.now c.loop-stmt.stmt-index
    c.stmt-item.result c.loop-stmt.machine.state s.new.self.state _ c.loop-stmt-test.true c.stmt-item.is c.loop-stmt.invariant.kept (ap Some (sym c.in-Some.is) ∙ c.in_ok-end_after.ensures) (s.ensures.meant c.loop-stmt.invariant.goes)
    (s.ensures.steps c.loop-stmt.invariant.goes) in
    elim c.if-is_kept.branch [
      | then-is_kept+in_ok-push-in-Some w ↦
          same_steps
          (ap (λ (b : Bool). steps_with b c.loop-stmt.used.items s.new.self.used) (sym c.is_kept.ensures ∙ w.if-is_kept.true)
          ∙ ap (λ (n : ℕ). c.loop-stmt.used.items ++ n ∷ []) (sym w.used-then-is_kept.ensures)
          ∙ sym (pushed w.push-then-is_kept.result w.in_ok-push-in-Some.field-0 c.loop-stmt.used.items _ _ w.in_ok-push-in-Some.was w.push-then-is_kept.ensures.items)
          ∙ ap (λ (u : Vec ℕ Global). u.items) (sym w.used-is))
          (ap (λ (b : Bool). clock_of b c.loop-stmt.machine.state s.new.self.state) (sym c.is_kept.ensures ∙ w.if-is_kept.true)
          ∙ sym (w.clock-is ∙ w.clock-clock-then-is_kept.ensures ∙ ap (λ (t : Timed). t.clock) w.probe-then-is_kept.ensures))
          told
      | else-is_kept w ↦
          same_steps
          (ap (λ (b : Bool). steps_with b c.loop-stmt.used.items s.new.self.used) (sym c.is_kept.ensures ∙ w.if-is_kept.false)
          ∙ ap (λ (u : Vec ℕ Global). u.items) (sym w.used-is))
          (ap (λ (b : Bool). clock_of b c.loop-stmt.machine.state s.new.self.state) (sym c.is_kept.ensures ∙ w.if-is_kept.false)
          ∙ sym (w.clock-is ∙ c.clock-clock.ensures ∙ ap (λ (t : Timed). t.clock) c.probe.ensures))
          told
    ]

pub returns : goal.returns
returns c =
    same_steps refl (sym (c.clock.ensures ∙ ap (λ (t : Timed). t.clock) c.probe-2.ensures))
    (walked_all c.args.limit timer c.loop-stmt.machine.tables.now c.loop-stmt.used.items c.args.stmts.now c.loop-stmt.stmt-index
    c.loop-stmt.machine.state _ c.loop-stmt-test.false c.loop-stmt.invariant.kept)
