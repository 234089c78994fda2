-- The laws of one level.
use Rattle.std.proofs.Common.{ap, ℕ, Bool}
use Rattle.py_syntax.specs.declared.expr.Args.{Args, fold_out-Args}
use Rattle.py_syntax.specs.declared.expr.Expr.{Expr, fold_out-Expr}
use Rattle.py_syntax.specs.declared.expr.ExprKind.{ExprKind, fold_out-ExprKind}
use Rattle.py_syntax.specs.declared.stmt.Clause.{Clause, fold_out-Clause}
use Rattle.py_syntax.specs.declared.stmt.Stmt.{Stmt, fold_out-Stmt}
use Rattle.py_syntax.specs.declared.stmt.StmtKind.{StmtKind, fold_out-StmtKind}
use Rattle.mutant_model.specs.Laws.{SitesByExpr, SitesByKind, SitesByArgs, SitesByStmt, WordByStmt, SitesAt, WordIn, SitesByClause, ExprAgain, KindAgain, ArgsAgain, StmtAgain, StmtKindAgain, ClauseAgain}
use Rattle.mutant_model.specs.Rewriting.{rewritten_expr, rewritten_kind, rewritten_args, rewritten_stmt, rewritten_clause, rewritten_stmt_kind, kind_by, args_by, expr_by, stmt_kind_by, clause_by, stmt_by}
use Rattle.mutant_model.specs.Sites.{Sites, OfKind, Tested, OfStmt, Part, kind_sites, args_sites, expr_sites, sites_of_expr, sites_of_kind, sites_of_args, of_stmt, clause_sites, stmt_sites, word_of_stmt, sites_of_stmt, sites_of_clause, word_in, sites_at}

pub sites_by_expr : SitesByExpr
unfolding sites_of_expr sites_of_kind sites_of_args
sites_by_expr x is_test = ap (λ sites. sites is_test) (fold_out-Expr OfKind Sites Tested kind_sites args_sites expr_sites x)

pub sites_by_kind : SitesByKind
unfolding sites_of_expr sites_of_kind sites_of_args
sites_by_kind kind node line is_test = ap (λ sites. sites node line is_test) (fold_out-ExprKind OfKind Sites Tested kind_sites args_sites expr_sites kind)

pub sites_by_args : SitesByArgs
unfolding sites_of_expr sites_of_kind sites_of_args
sites_by_args args = fold_out-Args OfKind Sites Tested kind_sites args_sites expr_sites args

pub sites_by_stmt : SitesByStmt
unfolding word_of_stmt sites_of_stmt sites_of_clause word_in sites_at
sites_by_stmt stmt = ap (λ part. part.sites) (fold_out-Stmt OfStmt Sites Part of_stmt clause_sites stmt_sites stmt)

pub word_by_stmt : WordByStmt
unfolding word_of_stmt sites_of_stmt sites_of_clause word_in sites_at
word_by_stmt stmt = ap (λ part. part.word) (fold_out-Stmt OfStmt Sites Part of_stmt clause_sites stmt_sites stmt)

pub sites_at_level : SitesAt
unfolding word_of_stmt sites_of_stmt sites_of_clause word_in sites_at
sites_at_level kind node line = ap (λ it. it.at node line) (fold_out-StmtKind OfStmt Sites Part of_stmt clause_sites stmt_sites kind)

pub word_in_level : WordIn
unfolding word_of_stmt sites_of_stmt sites_of_clause word_in sites_at
word_in_level kind = ap (λ it. it.word) (fold_out-StmtKind OfStmt Sites Part of_stmt clause_sites stmt_sites kind)

pub sites_by_clause : SitesByClause
unfolding word_of_stmt sites_of_stmt sites_of_clause word_in sites_at
sites_by_clause clause = fold_out-Clause OfStmt Sites Part of_stmt clause_sites stmt_sites clause

pub expr_level : ExprAgain
unfolding rewritten_expr rewritten_kind rewritten_args
expr_level patch x = fold_out-Expr ExprKind Args Expr (kind_by patch) (args_by patch) (expr_by patch) x

pub kind_level : KindAgain
unfolding rewritten_expr rewritten_kind rewritten_args
kind_level patch kind = fold_out-ExprKind ExprKind Args Expr (kind_by patch) (args_by patch) (expr_by patch) kind

pub args_level : ArgsAgain
unfolding rewritten_expr rewritten_kind rewritten_args
args_level patch args = fold_out-Args ExprKind Args Expr (kind_by patch) (args_by patch) (expr_by patch) args

pub stmt_level : StmtAgain
unfolding rewritten_stmt rewritten_clause rewritten_stmt_kind
stmt_level patch stmt = fold_out-Stmt StmtKind Clause Stmt (stmt_kind_by patch) (clause_by patch) (stmt_by patch) stmt

pub stmt_kind_level : StmtKindAgain
unfolding rewritten_stmt rewritten_clause rewritten_stmt_kind
stmt_kind_level patch kind = fold_out-StmtKind StmtKind Clause Stmt (stmt_kind_by patch) (clause_by patch) (stmt_by patch) kind

pub clause_level : ClauseAgain
unfolding rewritten_stmt rewritten_clause rewritten_stmt_kind
clause_level patch clause = fold_out-Clause StmtKind Clause Stmt (stmt_kind_by patch) (clause_by patch) (stmt_by patch) clause
