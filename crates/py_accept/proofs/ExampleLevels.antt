-- The worked example, by the laws of what nodes use and bind.
use Rattle.py_syntax.specs.declared.expr.ExprKind.TheVariants.{outs-IntLit, outs-Name}
use Rattle.py_syntax.specs.declared.stmt.StmtKind.TheVariants.{outs-Assign}
use Rattle.py_names.specs.Folds.{by_statement}
use Rattle.py_scopes.specs.Folds.{uses_by_expr, number_by_expr, uses_by_kind, uses_by_stmt, uses_by_stmt_kind, constant_by_expr, constant_by_kind, display_by_expr, display_by_kind}
use Rattle.py_accept.specs.Examples.{Taken, NotTaken}

ruleset example_levels = (uses_by_expr, number_by_expr, uses_by_kind, uses_by_stmt, uses_by_stmt_kind, constant_by_expr, constant_by_kind, display_by_expr, display_by_kind, by_statement, outs-IntLit, outs-Name, outs-Assign)

pub taken : Taken
taken = simp example_levels

pub not_taken : NotTaken
not_taken = simp example_levels
