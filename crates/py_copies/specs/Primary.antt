-- Which expressions are primaries with parts.
use Rattle.std.specs.Prelude.{Bool, true, false}
use Rattle.py_syntax.specs.declared.expr.Args.{Args}
use Rattle.py_syntax.specs.declared.expr.Expr.{Expr}
use Rattle.py_syntax.specs.declared.expr.ExprKind.{ExprKind, ExprKind-F, out-ExprKind}

-- a primary that isn't an atom
abbrev pub primary_node : ExprKind-F ExprKind Args Expr → Bool
primary_node (ExprKind-F.Attr x n) = true
primary_node (ExprKind-F.Index x i) = true
primary_node (ExprKind-F.Slice x a b) = true
primary_node (ExprKind-F.Call x given) = true
primary_node (ExprKind-F.Method x n given) = true
primary_node (ExprKind-F.Super n given) = true
primary_node _ = false

abbrev pub is_primary : ExprKind → Bool
is_primary k = primary_node (out-ExprKind k)
