-- The examples of import, by the laws of folds.
use Rattle.std.proofs.Common.{◌≡◌, ◌∙◌, ap}
use Rattle.py_syntax.specs.declared.expr.Args.{Args, fold-Args}
use Rattle.py_syntax.specs.declared.expr.Expr.{Expr, fold_out-Expr}
use Rattle.py_syntax.specs.declared.expr.ExprKind.{ExprKind, fold-ExprKind, fold_out-ExprKind, map-ExprKind, out-ExprKind}
use Rattle.py_syntax.specs.declared.expr.ExprKind.TheVariants.{outs-IntLit, outs-Name, outs-Unary}
use Rattle.py_syntax.specs.declared.stmt.StmtKind.TheVariants.{outs-Assign, outs-Pass}
use Rattle.py_meaning.specs.Folds.{views}
use Rattle.py_meaning.specs.Worlds.{Attributes}
use Rattle.py_names.specs.Folds.{by_statement}
use Rattle.py_plain.specs.Import.{Constant, imported, constant, constant_by, constant_of_args, constant_of_expr}
use Rattle.py_plain.specs.ExamplesImport.{Programs, Imported}
use Rattle.py_plain.specs.Tests.{Trail}

-- a constant's value, from those of its parts
constant-out : (e : Expr) (names : Attributes) → constant e names ≡ constant_by (map-ExprKind ExprKind Args Expr Constant (Unit {0}) Constant
    (fold-ExprKind Constant (Unit {0}) Constant constant_by constant_of_args constant_of_expr) (fold-Args Constant (Unit {0}) Constant constant_by constant_of_args constant_of_expr) constant (out-ExprKind e.kind)) names
unfolding constant
constant-out e names = ap (λ c. c names) (
    fold_out-Expr Constant (Unit {0}) Constant constant_by constant_of_args constant_of_expr e
    ∙ fold_out-ExprKind Constant (Unit {0}) Constant constant_by constant_of_args constant_of_expr e.kind)

pub programs : Programs
programs = simp (by_statement, outs-Assign, outs-Pass)

pub imports : (seen : Trail) → Imported seen
imports seen = ap (λ program. imported program seen) programs ∙ simp (constant-out, outs-IntLit, outs-Name, outs-Unary, views)
