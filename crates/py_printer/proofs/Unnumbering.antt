-- The shape of an expression, one node at a time.
use Rattle.std.proofs.Common.{◌≡◌, ◌∙◌, ap, ℕ, Bool, List, ◌++◌, Option, Some, None}
use Rattle.std.specs.Prelude.{map, option_map, ℤ}
use Rattle.py_language.specs.declared.shape.Atom.TheVariants as a
use Rattle.py_language.specs.declared.shape.Shape.{Shape}
use Rattle.py_language.specs.declared.shape.Shape.TheVariants as e
use Rattle.py_syntax.specs.declared.expr.Args.{Args, out-Args, fold_out-Args}
use Rattle.py_syntax.specs.declared.expr.Expr.{Expr, fold_out-Expr}
use Rattle.py_syntax.specs.declared.expr.ExprKind.{ExprKind, ExprKind-F, out-ExprKind, fold_out-ExprKind}
use Rattle.py_syntax.specs.declared.expr.ExprKind.TheFolds.{map-ExprKind}
use Rattle.py_syntax.specs.declared.expr.ExprKind.TheVariants as k
use Rattle.py_syntax.specs.declared.expr.ExprKind.TheVariants.{outs-NoneLit, outs-BoolLit, outs-IntLit, outs-StrLit, outs-Name, outs-ListLit, outs-TupleLit, outs-DictLit, outs-Attr, outs-Index, outs-Slice, outs-Call, outs-Method, outs-Super, outs-Unary, outs-Not, outs-Binary, outs-And, outs-Or, outs-Compare, outs-Cond}
use Rattle.py_syntax.specs.declared.operator.BinOp.{BinOp}
use Rattle.py_syntax.specs.declared.operator.CmpOp.{CmpOp}
use Rattle.py_syntax.specs.declared.operator.Sign.{Sign}
use Rattle.py_printing.specs.Expressions.{Given, unnamed, named, args_of, kind_of, unnumbered}
use Rattle.py_printer.specs.Expressions.{of_kind, of_args}

pub expr_is : (x : Expr) → unnumbered x ≡ of_kind x.kind
unfolding unnumbered
expr_is x = fold_out-Expr Shape Given Shape kind_of args_of (λ f. f.kind) x

abbrev pub layer : ExprKind-F ExprKind Args Expr → Shape
layer x = kind_of (map-ExprKind ExprKind Args Expr Shape Given Shape of_kind of_args unnumbered x)

pub kind_is : (x : ExprKind) → of_kind x ≡ layer (out-ExprKind x)
unfolding unnumbered
kind_is x = fold_out-ExprKind Shape Given Shape kind_of args_of (λ f. f.kind) x

pub args_is : (args : Args) → of_args args ≡ unnamed (map unnumbered (out-Args args).plain) ++ named (map (λ (p : List ℕ × Expr). (p.0, unnumbered p.1)) (out-Args args).named)
unfolding unnumbered
args_is args = fold_out-Args Shape Given Shape kind_of args_of (λ f. f.kind) args

pub of-NoneLit : of_kind k.NoneLit ≡ e.Atom a.NoneLit
of-NoneLit = kind_is k.NoneLit ∙ ap layer (outs-NoneLit)

pub of-BoolLit : (b : Bool) → of_kind (k.BoolLit b) ≡ e.Atom (a.BoolLit b)
of-BoolLit b = kind_is (k.BoolLit b) ∙ ap layer (outs-BoolLit b)

pub of-IntLit : (n : ℤ) → of_kind (k.IntLit n) ≡ e.Atom (a.IntLit n)
of-IntLit n = kind_is (k.IntLit n) ∙ ap layer (outs-IntLit n)

pub of-StrLit : (x : List ℕ) → of_kind (k.StrLit x) ≡ e.Atom (a.StrLit x)
of-StrLit x = kind_is (k.StrLit x) ∙ ap layer (outs-StrLit x)

pub of-Name : (n : List ℕ) → of_kind (k.Name n) ≡ e.Atom (a.Name n)
of-Name n = kind_is (k.Name n) ∙ ap layer (outs-Name n)

pub of-ListLit : (xs : List Expr) → of_kind (k.ListLit xs) ≡ e.ListLit (map unnumbered xs)
of-ListLit xs = kind_is (k.ListLit xs) ∙ ap layer (outs-ListLit xs)

pub of-TupleLit : (xs : List Expr) → of_kind (k.TupleLit xs) ≡ e.TupleLit (map unnumbered xs)
of-TupleLit xs = kind_is (k.TupleLit xs) ∙ ap layer (outs-TupleLit xs)

pub of-DictLit : (xs : List (Expr × Expr)) → of_kind (k.DictLit xs) ≡ e.DictLit (map (λ (p : Expr × Expr). (unnumbered p.0, unnumbered p.1)) xs)
of-DictLit xs = kind_is (k.DictLit xs) ∙ ap layer (outs-DictLit xs)

pub of-Attr : (x : Expr) (n : List ℕ) → of_kind (k.Attr x n) ≡ e.Attr (unnumbered x) n
of-Attr x n = kind_is (k.Attr x n) ∙ ap layer (outs-Attr x n)

pub of-Index : (x i : Expr) → of_kind (k.Index x i) ≡ e.Index (unnumbered x) (unnumbered i)
of-Index x i = kind_is (k.Index x i) ∙ ap layer (outs-Index x i)

pub of-Call : (x : Expr) (args : Args) → of_kind (k.Call x args) ≡ e.Call (unnumbered x) (of_args args)
of-Call x args = kind_is (k.Call x args) ∙ ap layer (outs-Call x args)

pub of-Method : (x : Expr) (n : List ℕ) (args : Args) → of_kind (k.Method x n args) ≡ e.Method (unnumbered x) n (of_args args)
of-Method x n args = kind_is (k.Method x n args) ∙ ap layer (outs-Method x n args)

pub of-Super : (n : List ℕ) (args : Args) → of_kind (k.Super n args) ≡ e.Super n (of_args args)
of-Super n args = kind_is (k.Super n args) ∙ ap layer (outs-Super n args)

pub of-Unary : (g : Sign) (x : Expr) → of_kind (k.Unary g x) ≡ e.Unary g (unnumbered x)
of-Unary g x = kind_is (k.Unary g x) ∙ ap layer (outs-Unary g x)

pub of-Not : (x : Expr) → of_kind (k.Not x) ≡ e.Not (unnumbered x)
of-Not x = kind_is (k.Not x) ∙ ap layer (outs-Not x)

pub of-Binary : (op : BinOp) (x y : Expr) → of_kind (k.Binary op x y) ≡ e.Binary op (unnumbered x) (unnumbered y)
of-Binary op x y = kind_is (k.Binary op x y) ∙ ap layer (outs-Binary op x y)

pub of-And : (xs : List Expr) → of_kind (k.And xs) ≡ e.And (map unnumbered xs)
of-And xs = kind_is (k.And xs) ∙ ap layer (outs-And xs)

pub of-Or : (xs : List Expr) → of_kind (k.Or xs) ≡ e.Or (map unnumbered xs)
of-Or xs = kind_is (k.Or xs) ∙ ap layer (outs-Or xs)

pub of-Compare : (x : Expr) (cs : List (CmpOp × Expr)) → of_kind (k.Compare x cs) ≡ e.Compare (unnumbered x) (map (λ (c : CmpOp × Expr). (c.0, unnumbered c.1)) cs)
of-Compare x cs = kind_is (k.Compare x cs) ∙ ap layer (outs-Compare x cs)

pub of-Cond : (x y z : Expr) → of_kind (k.Cond x y z) ≡ e.Cond (unnumbered x) (unnumbered y) (unnumbered z)
of-Cond x y z = kind_is (k.Cond x y z) ∙ ap layer (outs-Cond x y z)

pub of-Slice : (x : Expr) (low high : Option Expr) → of_kind (k.Slice x low high) ≡ e.Slice (unnumbered x) (option_map unnumbered low) (option_map unnumbered high)
of-Slice x None None = kind_is (k.Slice x None None) ∙ ap layer (outs-Slice x None None)
of-Slice x None (Some w) = kind_is (k.Slice x None (Some w)) ∙ ap layer (outs-Slice x None (Some w))
of-Slice x (Some v) None = kind_is (k.Slice x (Some v) None) ∙ ap layer (outs-Slice x (Some v) None)
of-Slice x (Some v) (Some w) = kind_is (k.Slice x (Some v) (Some w)) ∙ ap layer (outs-Slice x (Some v) (Some w))
