use Rattle.std.proofs.Common.{◌≡◌, None, drop}
use Rattle.timed_marks.specs.Timed.{timer}
use Rattle.test_run.specs.Watched.{after_steps, kept_for}
use Rattle.test_run.proofs.steps.run_steps.Given as goal

abbrev pub invariant-loop-stmt : goal.invariant-loop-stmt
invariant-loop-stmt l =
    record {
      kept : after_steps l.used.items (kept_for timer l.machine.tables.now l.limit (drop l.stmt-index l.stmts) l.machine.state)
          ≡ kept_for timer l.fn.machine.tables.now l.limit l.stmts l.fn.machine.state;
      goes : l.machine.ended ≡ None;
    }
