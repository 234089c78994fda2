-- The worked examples, by the laws.
use Rattle.py_syntax.specs.declared.expr.ExprKind.TheVariants.{outs-IntLit, outs-ListLit, outs-Name}
use Rattle.py_syntax.specs.declared.stmt.Annotation.TheVariants.{outs-Named}
use Rattle.py_syntax.specs.declared.stmt.StmtKind.TheVariants.{outs-Assign, outs-Break, outs-Return, outs-While}
use Rattle.py_names.specs.Folds.{by_statement}
use Rattle.py_scopes.specs.Examples.{Accepted, Known, Statements, Annotated, Loops}
use Rattle.py_scopes.specs.Folds.{uses_by_expr, number_by_expr, uses_by_kind, uses_by_stmt, uses_by_stmt_kind, constant_by_expr, constant_by_kind, display_by_expr, display_by_kind, names_by_part, unquoted_by_part, faulty_by_part, none_by_part, quoted_by_part}

ruleset levels = (uses_by_expr, number_by_expr, uses_by_kind, uses_by_stmt, uses_by_stmt_kind, constant_by_expr, constant_by_kind, display_by_expr, display_by_kind, names_by_part, unquoted_by_part, faulty_by_part, none_by_part, quoted_by_part, by_statement, outs-IntLit, outs-ListLit, outs-Name, outs-Named, outs-Assign, outs-Break, outs-Return, outs-While)

pub accepted : Accepted
accepted = simp levels

pub known : Known
known = simp levels

pub statements : Statements
statements = simp levels

pub annotated : Annotated
annotated = simp levels

pub loops : Loops
loops = simp levels
