-- What the code's lists of parts are numbered by.
use Rattle.std.specs.Prelude.{ℕ, Bool, true, false, List, ◌++◌, map, nat_lt}
use Rattle.py_syntax.specs.declared.expr.Expr.{Expr}
use Rattle.py_syntax.specs.declared.expr.ExprKind.{ExprKind, ExprKind-F, out-ExprKind}
use Rattle.py_syntax.specs.declared.expr.ExprKind.TheVariants as e
use Rattle.py_syntax.specs.declared.expr.Args.{Args}
use Rattle.py_syntax.specs.declared.operator.CmpOp.{CmpOp}
use Rattle.py_language.specs.TreesNumbers.{Numbered, ◌>>=◌, plain, in_order}
use Rattle.py_nodes.specs.Expressions.{expr_on}
use Rattle.py_nodes.specs.declared.expressions.Series.{Series}
use Rattle.py_nodes.specs.declared.expressions.Series.TheVariants as series

module _ (counted : Bool) (line : ℕ) where
  abbrev pub pair_of : Expr × Expr → Numbered (Expr × Expr)
  pair_of p = do
    key ← expr_on counted line p.0
    value ← expr_on counted line p.1
    plain (key, value)

  abbrev pub compared_of : CmpOp × Expr → Numbered (CmpOp × Expr)
  compared_of p = do
    operand ← expr_on counted line p.1
    plain (p.0, operand)

  abbrev pub named_of : List ℕ × Expr → Numbered (List ℕ × Expr)
  named_of n = do
    value ← expr_on counted line n.1
    plain (n.0, value)

  -- what was done with more named arguments after it, and the number after them
  abbrev pub added : List (List ℕ × Expr) → List (List ℕ × Expr) → ℕ → List (List ℕ × Expr) × ℕ
  added done more n = let r = in_order (map named_of more) n in (done ++ r.0, r.1)

-- whether a named argument was written before the argument that had this number
abbrev pub precedes : ℕ → List ℕ × Expr → Bool
precedes had n = nat_lt n.1.node.0 had

-- a node whose parts are a list of expressions
abbrev pub series_kind : Series → List Expr → ExprKind
series_kind series.And all = e.And all
series_kind series.Or all = e.Or all
series_kind series.List all = e.ListLit all
series_kind series.Tuple all = e.TupleLit all

-- a primary that isn't an atom
abbrev pub primary_node : ExprKind-F ExprKind Args Expr → Bool
primary_node (ExprKind-F.Attr x n) = true
primary_node (ExprKind-F.Index x i) = true
primary_node (ExprKind-F.Slice x a b) = true
primary_node (ExprKind-F.Call x given) = true
primary_node (ExprKind-F.Method x n given) = true
primary_node (ExprKind-F.Super n given) = true
primary_node _ = false

abbrev pub is_primary : ExprKind → Bool
is_primary k = primary_node (out-ExprKind k)
