use Rattle.std.proofs.Common.{sym, arith}
use Rattle.py_lexer.proofs.StringLemmas.{closing_step, step_hidden, step_plain, no_line_end}
use Rattle.py_lexer.proofs.quoted.closing.Goals as goal
use Rattle.py_lexer.proofs.quoted.closing.Goals.{then-is_hidden, else-is_hidden+else-closes_here+else-b-eq10}

pub loop-b-preserved : goal.loop-b-preserved
loop-b-preserved c = elim c.if-is_hidden.branch [
  | then-is_hidden w ↦ record {
    value = closing_step _ _ _ _ _ _ _ _ _ _ c.in-Some.ensures.cases.0 w.is_hidden-is (step_hidden c.args.quote c.args.is_long c.loop-b.is_hidden c.in-Some.b.now c.in-Some.more.now w.if-is_hidden.true) c.loop-b.invariant.value;
    within = omega (arith, c.in-Some.ensures.cases.1);
  }
  | else-is_hidden+else-closes_here+else-b-eq10 w ↦ record {
    value = closing_step _ _ _ _ _ _ _ _ _ _ c.in-Some.ensures.cases.0 w.is_hidden-is (step_plain c.args.quote c.args.is_long c.loop-b.is_hidden c.in-Some.b.now c.in-Some.more.now w.if-is_hidden.false (sym w.if-closes_here.ensures) (no_line_end _ _ w.else-b-eq10.either)) c.loop-b.invariant.value;
    within = omega (arith, c.in-Some.ensures.cases.1);
  }
]
