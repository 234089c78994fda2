-- The laws of one level.
use Rattle.std.proofs.Common.{Option}
use Rattle.py_syntax.specs.declared.expr.Expr.{fold_out-Expr}
use Rattle.py_syntax.specs.declared.expr.ExprKind.{fold_out-ExprKind}
use Rattle.suite_model.specs.declared.suite.Shown.{Shown}
use Rattle.suite_file.specs.Laws.{ShownByExpr, ShownByKind}
use Rattle.suite_file.specs.Spelled.{shown_by, shown_by_args, shown_by_expr, shown_in, shown_in_kind, shown_in_args}

pub shown_by_level : ShownByExpr
unfolding shown_in shown_in_kind shown_in_args
shown_by_level e = fold_out-Expr (Option Shown) (Unit {0}) (Option Shown) shown_by shown_by_args shown_by_expr e

pub shown_by_kind : ShownByKind
unfolding shown_in shown_in_kind shown_in_args
shown_by_kind kind = fold_out-ExprKind (Option Shown) (Unit {0}) (Option Shown) shown_by shown_by_args shown_by_expr kind
