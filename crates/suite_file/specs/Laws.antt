-- Displays one level at a time.
use Rattle.std.specs.Prelude.{◌≡◌, Option}
use Rattle.py_syntax.specs.declared.expr.Args.{Args}
use Rattle.py_syntax.specs.declared.expr.Expr.{Expr}
use Rattle.py_syntax.specs.declared.expr.ExprKind.{ExprKind, map-ExprKind, out-ExprKind}
use Rattle.suite_model.specs.declared.suite.Shown.{Shown}
use Rattle.suite_file.specs.Spelled.{shown_by, shown_in, shown_in_kind, shown_in_args}

abbrev pub ShownByExpr : Type 0
ShownByExpr = (e : Expr) → shown_in e ≡ shown_in_kind e.kind

abbrev pub ShownByKind : Type 0
ShownByKind = (kind : ExprKind) →
    shown_in_kind kind ≡ shown_by (map-ExprKind ExprKind Args Expr (Option Shown) (Unit {0}) (Option Shown) shown_in_kind shown_in_args shown_in (out-ExprKind kind))
