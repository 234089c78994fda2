use Rattle.py_syntax.specs.declared.expr.Args.{out-roll-Args}
use Rattle.py_syntax.specs.declared.expr.ExprKind.TheVariants.{outs-NoneLit, outs-BoolLit, outs-IntLit, outs-StrLit, outs-Name, outs-ListLit, outs-TupleLit, outs-DictLit, outs-Attr, outs-Call, outs-Unary, outs-Compare}
use Rattle.py_syntax.specs.declared.stmt.StmtKind.TheVariants.{outs-Assert}
use Rattle.py_plain.proofs.assertions_examples.assertions_by_example.Goals as goal

ruleset kinds = (out-roll-Args, outs-NoneLit, outs-BoolLit, outs-IntLit, outs-StrLit, outs-Name, outs-ListLit, outs-TupleLit, outs-DictLit, outs-Attr, outs-Call, outs-Unary, outs-Compare, outs-Assert)

pub returns-clause-equals_display : goal.returns-clause-equals_display
returns-clause-equals_display c = simp kinds

pub returns-clause-too_many_levels : goal.returns-clause-too_many_levels
returns-clause-too_many_levels c = simp kinds

pub returns-clause-is_false : goal.returns-clause-is_false
returns-clause-is_false c = simp kinds

pub returns-clause-is_variable : goal.returns-clause-is_variable
returns-clause-is_variable c = simp kinds

pub returns-clause-is_instance : goal.returns-clause-is_instance
returns-clause-is_instance c = simp kinds

pub returns-clause-of_call : goal.returns-clause-of_call
returns-clause-of_call c = simp kinds
