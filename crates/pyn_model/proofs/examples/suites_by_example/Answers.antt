-- Each example computes.
use Rattle.std.proofs.Common.{refl, ap, codes}
use Rattle.std.specs.Fmt.{digits}
use Rattle.py_syntax.specs.declared.expr.Args.{out-roll-Args}
use Rattle.py_syntax.specs.declared.stmt.StmtKind.TheVariants.{outs-Return, outs-Assign}
use Rattle.py_syntax.specs.declared.expr.ExprKind.TheVariants.{outs-Method, outs-Name, outs-IntLit, outs-StrLit}
use Rattle.pyn_model.specs.Report.{report_text}
use Rattle.pyn_model.specs.Examples.{one}
use Rattle.pyn_model.proofs.Accepted.{first_form-IsFirst}
use Rattle.pyn_model.proofs.Calls.{judged-calls}
use Rattle.pyn_model.proofs.examples.suites_by_example.Goals as goal

ruleset views = (out-roll-Args, outs-Return, outs-Assign, outs-Method, outs-Name, outs-IntLit, outs-StrLit)

pub returns-clause-written : goal.returns-clause-written
unfolding digits
returns-clause-written c = refl

pub returns-clause-read : goal.returns-clause-read
unfolding digits
returns-clause-read c = refl

pub returns-clause-another_number : goal.returns-clause-another_number
unfolding digits
returns-clause-another_number c = refl

pub returns-clause-no_such_function : goal.returns-clause-no_such_function
unfolding digits
returns-clause-no_such_function c = refl

pub returns-clause-six_steps : goal.returns-clause-six_steps
unfolding digits
returns-clause-six_steps c = simp views refl

pub returns-clause-five_steps : goal.returns-clause-five_steps
unfolding digits
returns-clause-five_steps c = simp views refl

pub returns-clause-second_function : goal.returns-clause-second_function
unfolding digits
returns-clause-second_function c = simp views refl

pub returns-clause-goals : goal.returns-clause-goals
returns-clause-goals c = refl

pub returns-clause-all_taken : goal.returns-clause-all_taken
unfolding digits
returns-clause-all_taken c = simp views refl

pub returns-clause-some_taken : goal.returns-clause-some_taken
unfolding digits
returns-clause-some_taken c = simp views refl

pub returns-clause-minimal : goal.returns-clause-minimal
unfolding digits
returns-clause-minimal c = simp views refl

pub returns-clause-twice : goal.returns-clause-twice
unfolding digits
returns-clause-twice c = simp views refl

pub returns-clause-report : goal.returns-clause-report
unfolding digits
returns-clause-report c = ap report_text (judged-calls one (codes "one") (first_form-IsFirst (codes "def f():\n    return 1\n") one refl))
