-- The shape of each form of expression that a suite has.
use Rattle.std.proofs.Common.{◌≡◌, ◌∙◌, ap, ℕ, Bool, List, [], ◌∷◌, ◌++◌, map}
use Rattle.std.specs.Prelude.{ℤ}
use Rattle.py_language.specs.declared.shape.Atom.TheVariants as a
use Rattle.py_language.specs.declared.shape.Shape.{Shape}
use Rattle.py_language.specs.declared.shape.Shape.TheVariants as shape
use Rattle.py_syntax.specs.declared.expr.Args.{roll-Args}
use Rattle.py_syntax.specs.declared.expr.Expr.{Expr}
use Rattle.py_syntax.specs.declared.expr.ExprKind.TheVariants as e
use Rattle.py_syntax.specs.declared.operator.CmpOp.{CmpOp}
use Rattle.py_syntax.specs.declared.operator.Sign.{Sign}
use Rattle.py_printing.specs.Expressions.{Given, unnumbered, unnamed, named}
use Rattle.py_printing.proofs.Unnumbering.{expr_is, args_is, of-NoneLit, of-BoolLit, of-IntLit, of-StrLit, of-Name, of-ListLit, of-TupleLit, of-DictLit, of-Attr, of-Call, of-Method, of-Unary, of-Compare}
use Rattle.suite_model.specs.Statements.{expression}

pub shape-NoneLit : unnumbered (expression e.NoneLit) ≡ shape.Atom a.NoneLit
shape-NoneLit = expr_is (expression e.NoneLit) ∙ of-NoneLit

pub shape-BoolLit : (b : Bool) → unnumbered (expression (e.BoolLit b)) ≡ shape.Atom (a.BoolLit b)
shape-BoolLit b = expr_is (expression (e.BoolLit b)) ∙ of-BoolLit b

pub shape-IntLit : (n : ℤ) → unnumbered (expression (e.IntLit n)) ≡ shape.Atom (a.IntLit n)
shape-IntLit n = expr_is (expression (e.IntLit n)) ∙ of-IntLit n

pub shape-StrLit : (s : List ℕ) → unnumbered (expression (e.StrLit s)) ≡ shape.Atom (a.StrLit s)
shape-StrLit s = expr_is (expression (e.StrLit s)) ∙ of-StrLit s

pub shape-Name : (n : List ℕ) → unnumbered (expression (e.Name n)) ≡ shape.Atom (a.Name n)
shape-Name n = expr_is (expression (e.Name n)) ∙ of-Name n

pub shape-ListLit : (xs : List Expr) → unnumbered (expression (e.ListLit xs)) ≡ shape.ListLit (map unnumbered xs)
shape-ListLit xs = expr_is (expression (e.ListLit xs)) ∙ of-ListLit xs

pub shape-TupleLit : (xs : List Expr) → unnumbered (expression (e.TupleLit xs)) ≡ shape.TupleLit (map unnumbered xs)
shape-TupleLit xs = expr_is (expression (e.TupleLit xs)) ∙ of-TupleLit xs

abbrev pub both_unnumbered : Expr × Expr → Shape × Shape
both_unnumbered p = (unnumbered p.0, unnumbered p.1)

pub shape-DictLit : (xs : List (Expr × Expr)) → unnumbered (expression (e.DictLit xs)) ≡ shape.DictLit (map both_unnumbered xs)
shape-DictLit xs = expr_is (expression (e.DictLit xs)) ∙ of-DictLit xs

pub shape-Attr : (x : Expr) (n : List ℕ) → unnumbered (expression (e.Attr x n)) ≡ shape.Attr (unnumbered x) n
shape-Attr x n = expr_is (expression (e.Attr x n)) ∙ of-Attr x n

pub shape-Unary : (g : Sign) (x : Expr) → unnumbered (expression (e.Unary g x)) ≡ shape.Unary g (unnumbered x)
shape-Unary g x = expr_is (expression (e.Unary g x)) ∙ of-Unary g x

pub shape-Compare : (x : Expr) (op : CmpOp) (y : Expr) → unnumbered (expression (e.Compare x ((op, y) ∷ []))) ≡ shape.Compare (unnumbered x) ((op, unnumbered y) ∷ [])
shape-Compare x op y = expr_is (expression (e.Compare x ((op, y) ∷ []))) ∙ of-Compare x ((op, y) ∷ [])

-- arguments without names
abbrev pub given : List Expr → Given
given xs = unnamed (map unnumbered xs) ++ named []

pub shape-Method : (x : Expr) (n : List ℕ) (args : List Expr) → unnumbered (expression (e.Method x n (roll-Args record { plain = args; named = [] }))) ≡ shape.Method (unnumbered x) n (given args)
shape-Method x n args =
    expr_is (expression (e.Method x n (roll-Args record { plain = args; named = [] }))) ∙ of-Method x n (roll-Args record { plain = args; named = [] })
    ∙ ap (shape.Method (unnumbered x) n) (args_is args [])

pub shape-Call : (x : Expr) (args : List Expr) → unnumbered (expression (e.Call x (roll-Args record { plain = args; named = [] }))) ≡ shape.Call (unnumbered x) (given args)
shape-Call x args =
    expr_is (expression (e.Call x (roll-Args record { plain = args; named = [] }))) ∙ of-Call x (roll-Args record { plain = args; named = [] })
    ∙ ap (shape.Call (unnumbered x)) (args_is args [])
