-- The parts of a node, each of which is numbered.
use Rattle.std.specs.Prelude.{ℕ, Bool, true, false, List, [], ◌∷◌, ◌++◌, Option, Some, None}
use Rattle.py_syntax.specs.declared.expr.Expr.{Expr}
use Rattle.py_syntax.specs.declared.expr.ExprKind.{ExprKind}
use Rattle.py_syntax.specs.declared.expr.ExprKind.TheVariants as e
use Rattle.py_syntax.specs.declared.operator.CmpOp.{CmpOp}
use Rattle.py_language.specs.declared.shape.Shape.{Shape, Shape-F, out-Shape}
use Rattle.py_language.specs.declared.shape.Shape.TheVariants as s
use Rattle.py_language.specs.TreesNumbers.{Numbered, Given, numbered}
use Rattle.py_expr.specs.declared.number.Series.{Series}
use Rattle.py_expr.specs.declared.number.Series.TheVariants as series

abbrev pub pair_numbered : Shape × Shape → Numbered Expr × Numbered Expr
pair_numbered p = (numbered p.0, numbered p.1)

abbrev pub comparison_numbered : CmpOp × Shape → CmpOp × Numbered Expr
comparison_numbered p = (p.0, numbered p.1)

abbrev pub argument_numbered : Option (List ℕ) × Shape → Option (List ℕ) × Numbered Expr
argument_numbered p = (p.0, numbered p.1)

-- the arguments with one more after them
abbrev pub one_more : Given → Option (List ℕ) → Expr → Given
one_more done None x = (done.0 ++ x ∷ [], done.1)
one_more done (Some name) x = (done.0, done.1 ++ (name, x) ∷ [])

-- a node whose parts are a list of expressions
abbrev pub series_kind : Series → List Expr → ExprKind
series_kind series.And all = e.And all
series_kind series.Or all = e.Or all
series_kind series.List all = e.ListLit all
series_kind series.Tuple all = e.TupleLit all

abbrev pub series_shape : Series → List Shape → Shape
series_shape series.And xs = s.And xs
series_shape series.Or xs = s.Or xs
series_shape series.List xs = s.ListLit xs
series_shape series.Tuple xs = s.TupleLit xs

-- an operand with a group after it, or a call by `super`
abbrev pub primary_node : Shape-F Shape → Bool
primary_node (Shape-F.Attr x n) = true
primary_node (Shape-F.Index x i) = true
primary_node (Shape-F.Slice x a b) = true
primary_node (Shape-F.Call x given) = true
primary_node (Shape-F.Method x n given) = true
primary_node (Shape-F.Super n given) = true
primary_node _ = false

abbrev pub is_primary : Shape → Bool
is_primary x = primary_node (out-Shape x)
