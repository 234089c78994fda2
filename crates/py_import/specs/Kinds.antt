-- Constants by the kinds of their expressions.
use Rattle.std.specs.Prelude.{map}
use Rattle.py_syntax.specs.declared.expr.Expr.{Expr}
use Rattle.py_syntax.specs.declared.expr.ExprKind.{ExprKind, fold-ExprKind}
use Rattle.py_meaning.specs.Methods.{Names}
use Rattle.py_meaning.specs.Worlds.{Attributes}
use Rattle.py_plain.specs.Import.{Constant, constant, constant_by, constant_of_args, constant_of_expr}

unfoldable pub constant_kind : ExprKind → Constant
constant_kind = fold-ExprKind Constant (Unit {0}) Constant constant_by constant_of_args constant_of_expr

-- the values of constants by their names
abbrev pub valued : Attributes → Names Expr → Attributes
valued names rows = map (λ row. (row.0, constant row.1 names)) rows
