-- What the texts of examples are computed by: the symbols of each form of expression, from those of its parts.
use Rattle.std.proofs.Common.{◌≡◌, ◌∙◌, ap, ℕ, Bool, List, [], ◌∷◌, Option, map}
use Rattle.std.specs.Prelude.{ℤ}
use Rattle.py_language.specs.declared.shape.Atom.TheVariants as a
use Rattle.py_language.specs.declared.shape.Shape.{Shape, Shape-F}
use Rattle.py_syntax.specs.declared.expr.Args.{roll-Args}
use Rattle.py_syntax.specs.declared.expr.Expr.{Expr}
use Rattle.py_syntax.specs.declared.expr.ExprKind.TheVariants as e
use Rattle.py_syntax.specs.declared.operator.CmpOp.{CmpOp}
use Rattle.py_syntax.specs.declared.operator.Sign.{Sign}
use Rattle.py_printing.specs.Expressions.{unnumbered}
use Rattle.py_printing.specs.Printing.{Printed, print_node, printed}
use Rattle.py_printing.proofs.Unrolled.{printed-Atom, printed-ListLit, printed-TupleLit, printed-DictLit, printed-Attr, printed-Call, printed-Method, printed-Unary, printed-Compare}
use Rattle.suite_model.specs.declared.suite.Shown.{Shown, Shown-F, map-Shown, out-Shown}
use Rattle.suite_model.specs.declared.suite.Shown.TheVariants as shown
use Rattle.suite_model.specs.declared.suite.Shown.TheVariants.{outs-Prim, outs-List, outs-Tuple, outs-Dict}
use Rattle.suite_model.specs.declared.test.Primitive.{Primitive}
use Rattle.suite_model.specs.Assertions.{display, display_by}
use Rattle.suite_model.specs.Folds.{by_shown}
use Rattle.suite_model.specs.Statements.{expression, literal}
use Rattle.suite_text.proofs.Shapes.{both_unnumbered, given, shape-NoneLit, shape-BoolLit, shape-IntLit, shape-StrLit, shape-Name, shape-ListLit, shape-TupleLit, shape-DictLit, shape-Attr, shape-Unary, shape-Compare, shape-Method, shape-Call}
use Rattle.suite_text.proofs.StatementRows.{bare_row, assign_row, assert_row}
use Rattle.suite_text.proofs.Expressions.{depth_is}

abbrev pub expr_printed : Expr → Printed
expr_printed x = printed (unnumbered x)

abbrev pub both_printed : Shape × Shape → Printed × Printed
both_printed p = (printed p.0, printed p.1)

abbrev pub argument_printed : Option (List ℕ) × Shape → Option (List ℕ) × Printed
argument_printed p = (p.0, printed p.1)

pub text-NoneLit : expr_printed (expression e.NoneLit) ≡ print_node (Shape-F.Atom a.NoneLit)
text-NoneLit = ap printed shape-NoneLit ∙ printed-Atom a.NoneLit

pub text-BoolLit : (b : Bool) → expr_printed (expression (e.BoolLit b)) ≡ print_node (Shape-F.Atom (a.BoolLit b))
text-BoolLit b = ap printed (shape-BoolLit b) ∙ printed-Atom (a.BoolLit b)

pub text-IntLit : (n : ℤ) → expr_printed (expression (e.IntLit n)) ≡ print_node (Shape-F.Atom (a.IntLit n))
text-IntLit n = ap printed (shape-IntLit n) ∙ printed-Atom (a.IntLit n)

pub text-StrLit : (s : List ℕ) → expr_printed (expression (e.StrLit s)) ≡ print_node (Shape-F.Atom (a.StrLit s))
text-StrLit s = ap printed (shape-StrLit s) ∙ printed-Atom (a.StrLit s)

pub text-Name : (n : List ℕ) → expr_printed (expression (e.Name n)) ≡ print_node (Shape-F.Atom (a.Name n))
text-Name n = ap printed (shape-Name n) ∙ printed-Atom (a.Name n)

pub text-ListLit : (xs : List Expr) → expr_printed (expression (e.ListLit xs)) ≡ print_node (Shape-F.ListLit (map printed (map unnumbered xs)))
text-ListLit xs = ap printed (shape-ListLit xs) ∙ printed-ListLit (map unnumbered xs)

pub text-TupleLit : (xs : List Expr) → expr_printed (expression (e.TupleLit xs)) ≡ print_node (Shape-F.TupleLit (map printed (map unnumbered xs)))
text-TupleLit xs = ap printed (shape-TupleLit xs) ∙ printed-TupleLit (map unnumbered xs)

pub text-DictLit : (xs : List (Expr × Expr)) → expr_printed (expression (e.DictLit xs)) ≡ print_node (Shape-F.DictLit (map both_printed (map both_unnumbered xs)))
text-DictLit xs = ap printed (shape-DictLit xs) ∙ printed-DictLit (map both_unnumbered xs)

pub text-Attr : (x : Expr) (n : List ℕ) → expr_printed (expression (e.Attr x n)) ≡ print_node (Shape-F.Attr (expr_printed x) n)
text-Attr x n = ap printed (shape-Attr x n) ∙ printed-Attr (unnumbered x) n

pub text-Unary : (g : Sign) (x : Expr) → expr_printed (expression (e.Unary g x)) ≡ print_node (Shape-F.Unary g (expr_printed x))
text-Unary g x = ap printed (shape-Unary g x) ∙ printed-Unary g (unnumbered x)

pub text-Compare : (x : Expr) (op : CmpOp) (y : Expr) → expr_printed (expression (e.Compare x ((op, y) ∷ []))) ≡ print_node (Shape-F.Compare (expr_printed x) ((op, expr_printed y) ∷ []))
text-Compare x op y = ap printed (shape-Compare x op y) ∙ printed-Compare (unnumbered x) ((op, unnumbered y) ∷ [])

pub text-Method : (x : Expr) (n : List ℕ) (args : List Expr)
    → expr_printed (expression (e.Method x n (roll-Args record { plain = args; named = [] }))) ≡ print_node (Shape-F.Method (expr_printed x) n (map argument_printed (given args)))
text-Method x n args = ap printed (shape-Method x n args) ∙ printed-Method (unnumbered x) n (given args)

pub text-Call : (x : Expr) (args : List Expr)
    → expr_printed (expression (e.Call x (roll-Args record { plain = args; named = [] }))) ≡ print_node (Shape-F.Call (expr_printed x) (map argument_printed (given args)))
text-Call x args = ap printed (shape-Call x args) ∙ printed-Call (unnumbered x) (given args)

-- displays
by_form : (x : Shown) (f : Shown-F Shown) → out-Shown x ≡ f → expr_printed (display x) ≡ expr_printed (display_by (map-Shown Shown Expr display f))
by_form x f same = ap expr_printed (by_shown x ∙ ap (λ g. display_by (map-Shown Shown Expr display g)) same)

pub text-Prim : (p : Primitive) → expr_printed (display (shown.Prim p)) ≡ expr_printed (literal p)
text-Prim p = by_form (shown.Prim p) (Shown-F.Prim p) (outs-Prim p)

pub text-List : (xs : List Shown) → expr_printed (display (shown.List xs)) ≡ print_node (Shape-F.ListLit (map printed (map unnumbered (map display xs))))
text-List xs = by_form (shown.List xs) (Shown-F.List xs) (outs-List xs) ∙ text-ListLit (map display xs)

pub text-Tuple : (xs : List Shown) → expr_printed (display (shown.Tuple xs)) ≡ print_node (Shape-F.TupleLit (map printed (map unnumbered (map display xs))))
text-Tuple xs = by_form (shown.Tuple xs) (Shown-F.Tuple xs) (outs-Tuple xs) ∙ text-TupleLit (map display xs)

abbrev pub displays : Shown × Shown → Expr × Expr
displays p = (display p.0, display p.1)

pub text-Dict : (xs : List (Shown × Shown)) → expr_printed (display (shown.Dict xs)) ≡ print_node (Shape-F.DictLit (map both_printed (map both_unnumbered (map displays xs))))
text-Dict xs = by_form (shown.Dict xs) (Shown-F.Dict xs) (outs-Dict xs) ∙ text-DictLit (map displays xs)

pub ruleset texts = (
  bare_row,
  assign_row,
  assert_row,
  text-NoneLit,
  text-BoolLit,
  text-IntLit,
  text-StrLit,
  text-Name,
  text-ListLit,
  text-TupleLit,
  text-DictLit,
  text-Attr,
  text-Unary,
  text-Compare,
  text-Method,
  text-Call,
  text-Prim,
  text-List,
  text-Tuple,
  text-Dict,
)

pub ruleset depths = (depth_is, outs-Prim, outs-List, outs-Tuple, outs-Dict)
