-- The laws of one level.
use Rattle.std.proofs.Common.{ap, ℕ, Bool}
use Rattle.py_syntax.specs.declared.expr.Args.{fold_out-Args}
use Rattle.py_syntax.specs.declared.expr.Expr.{fold_out-Expr}
use Rattle.py_syntax.specs.declared.expr.ExprKind.{fold_out-ExprKind}
use Rattle.py_syntax.specs.declared.stmt.Annotation.{fold_out-Annotation}
use Rattle.py_syntax.specs.declared.stmt.Clause.{fold_out-Clause}
use Rattle.py_syntax.specs.declared.stmt.Stmt.{fold_out-Stmt}
use Rattle.py_syntax.specs.declared.stmt.StmtKind.{fold_out-StmtKind}
use Rattle.py_scopes.specs.Annotations.{Spellings, names_by, names_in, unquoted_by, unquoted_in, Checked, checked_by, faulty, none_of, quoted_of}
use Rattle.py_scopes.specs.Constants.{Judge, constant_by, no_constant, constant_of_expr, constant, constant_kind, constant_args, display_by, display_in_args, display_in, has_display, display_in_kind, display_of_args}
use Rattle.py_scopes.specs.Laws.{UsesByExpr, NumberByExpr, UsesByKind, UsesByArgs, UsesByStmt, UsesByStmtKind, UsesByClause, ConstantByExpr, ConstantByKind, DisplayByExpr, DisplayByKind, DisplayByArgs, NamesByPart, UnquotedByPart, FaultyByPart, NoneByPart, QuotedByPart}
use Rattle.py_scopes.specs.Uses.{OnLine, Part, kind_uses, args_uses, expr_uses, uses_of, number_of, uses_of_kind, uses_of_args, Within, stmt_kind_uses, clause_uses, stmt_uses, uses_in, uses_in_clause, uses_in_kind}

pub uses_by_expr : UsesByExpr
unfolding uses_of number_of uses_of_kind uses_of_args
uses_by_expr x = ap (λ part. part.uses) (fold_out-Expr OnLine OnLine Part kind_uses args_uses expr_uses x)

pub number_by_expr : NumberByExpr
unfolding uses_of number_of uses_of_kind uses_of_args
number_by_expr x = ap (λ part. part.number) (fold_out-Expr OnLine OnLine Part kind_uses args_uses expr_uses x)

pub uses_by_kind : UsesByKind
unfolding uses_of number_of uses_of_kind uses_of_args
uses_by_kind kind line = ap (λ uses. uses line) (fold_out-ExprKind OnLine OnLine Part kind_uses args_uses expr_uses kind)

pub uses_by_args : UsesByArgs
unfolding uses_of number_of uses_of_kind uses_of_args
uses_by_args args line = ap (λ uses. uses line) (fold_out-Args OnLine OnLine Part kind_uses args_uses expr_uses args)

pub uses_by_stmt : UsesByStmt
unfolding uses_in uses_in_clause uses_in_kind
uses_by_stmt stmt around = ap (λ uses. uses around) (fold_out-Stmt (ℕ → Within) Within Within stmt_kind_uses clause_uses stmt_uses stmt)

pub uses_by_stmt_kind : UsesByStmtKind
unfolding uses_in uses_in_clause uses_in_kind
uses_by_stmt_kind kind line around = ap (λ uses. uses line around) (fold_out-StmtKind (ℕ → Within) Within Within stmt_kind_uses clause_uses stmt_uses kind)

pub uses_by_clause : UsesByClause
unfolding uses_in uses_in_clause uses_in_kind
uses_by_clause clause around = ap (λ uses. uses around) (fold_out-Clause (ℕ → Within) Within Within stmt_kind_uses clause_uses stmt_uses clause)

pub constant_by_expr : ConstantByExpr
unfolding constant constant_kind constant_args
constant_by_expr x names = ap (λ judge. judge names) (fold_out-Expr Judge (Unit {0}) Judge constant_by no_constant constant_of_expr x)

pub constant_by_kind : ConstantByKind
unfolding constant constant_kind constant_args
constant_by_kind kind names = ap (λ judge. judge names) (fold_out-ExprKind Judge (Unit {0}) Judge constant_by no_constant constant_of_expr kind)

pub display_by_expr : DisplayByExpr
unfolding has_display display_in_kind display_of_args
display_by_expr x = fold_out-Expr Bool Bool Bool display_by display_in_args display_in x

pub display_by_kind : DisplayByKind
unfolding has_display display_in_kind display_of_args
display_by_kind kind = fold_out-ExprKind Bool Bool Bool display_by display_in_args display_in kind

pub display_by_args : DisplayByArgs
unfolding has_display display_in_kind display_of_args
display_by_args args = fold_out-Args Bool Bool Bool display_by display_in_args display_in args

pub names_by_part : NamesByPart
unfolding names_in
names_by_part annotation = fold_out-Annotation Spellings names_by annotation

pub unquoted_by_part : UnquotedByPart
unfolding unquoted_in
unquoted_by_part annotation = fold_out-Annotation Spellings unquoted_by annotation

pub faulty_by_part : FaultyByPart
unfolding faulty none_of quoted_of
faulty_by_part items before annotation at = ap (λ checked. checked.is_faulty at) (fold_out-Annotation Checked (checked_by items before) annotation)

pub none_by_part : NoneByPart
unfolding faulty none_of quoted_of
none_by_part items before annotation = ap (λ checked. checked.is_none) (fold_out-Annotation Checked (checked_by items before) annotation)

pub quoted_by_part : QuotedByPart
unfolding faulty none_of quoted_of
quoted_by_part items before annotation = ap (λ checked. checked.is_quoted) (fold_out-Annotation Checked (checked_by items before) annotation)
