use Rattle.std.proofs.Common.{◌∙◌, Ok, ap, arith}
use Rattle.py_plain.specs.Runs.{watched_by}
use Rattle.py_exec.proofs.Handling.{handled, not_handled, not_begun}
use Rattle.py_exec.proofs.tries.first_handler.Goals as goal

pub returns-in-Ok-true-clause-meant : goal.returns-in-Ok-true-clause-meant
returns-in-Ok-true-clause-meant g c =
    handled (watched_by g.P.Probe.after_began g.P.Probe.after_judged) c.args.tables.now c.args.id c.args.clauses.now c.loop-clause.clause-index c.clause-item.result (omega arith) c.clause-item.is
    _ c.loop-clause.s c.try_clause.new.s c.try_clause.result c.loop-clause.invariant.meant c.try_clause.ensures.meant (c.in-Ok-true.is ∙ ap Ok c.in-Ok-true.field-0-test)

pub returns-in-Err-clause-meant : goal.returns-in-Err-clause-meant
returns-in-Err-clause-meant g c =
    not_begun (watched_by g.P.Probe.after_began g.P.Probe.after_judged) c.args.tables.now c.args.id c.args.clauses.now c.loop-clause.clause-index c.clause-item.result (omega arith) c.clause-item.is
    _ c.loop-clause.s c.try_clause.new.s c.try_clause.result c.loop-clause.invariant.meant c.try_clause.ensures.meant c.in-Err.why c.in-Err.is

pub loop-clause-preserved : goal.loop-clause-preserved
loop-clause-preserved g c = record {
  meant = not_handled (watched_by g.P.Probe.after_began g.P.Probe.after_judged) c.args.tables.now c.args.id c.args.clauses.now c.loop-clause.clause-index c.clause-item.result (omega arith) c.clause-item.is
      _ c.loop-clause.s c.try_clause.new.s c.try_clause.result c.loop-clause.invariant.meant c.try_clause.ensures.meant (c.in-Ok-false.is ∙ ap Ok c.in-Ok-false.field-0-test);
  spends = omega arith;
}
