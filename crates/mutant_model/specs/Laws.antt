-- Sites and rewritten trees, one level at a time.
use Rattle.std.specs.Prelude.{◌≡◌, ℕ, Bool}
use Rattle.pyn_base.specs.declared.ids.NodeId.{NodeId}
use Rattle.py_syntax.specs.declared.expr.Args.{Args, Args-F, map-Args, out-Args}
use Rattle.py_syntax.specs.declared.expr.Expr.{Expr}
use Rattle.py_syntax.specs.declared.expr.ExprKind.{ExprKind, ExprKind-F, map-ExprKind, out-ExprKind}
use Rattle.py_syntax.specs.declared.patch.Patch.{Patch}
use Rattle.py_syntax.specs.declared.stmt.Clause.{Clause, Clause-F, map-Clause, out-Clause}
use Rattle.py_syntax.specs.declared.stmt.Stmt.{Stmt}
use Rattle.py_syntax.specs.declared.stmt.StmtKind.{StmtKind, StmtKind-F, map-StmtKind, out-StmtKind}
use Rattle.mutant_model.specs.Rewriting.{rewritten_expr, rewritten_kind, rewritten_args, rewritten_stmt, rewritten_clause, rewritten_stmt_kind, kind_by, args_by, expr_by, stmt_kind_by, clause_by, stmt_by}
use Rattle.mutant_model.specs.Sites.{Sites, OfKind, Tested, OfStmt, Part, Word, kind_sites, args_sites, sites_of_expr, sites_of_kind, sites_of_args, of_stmt, clause_sites, word_by, word_of_stmt, sites_of_stmt, sites_of_clause, word_in, sites_at}

-- ---- sites

abbrev pub SitesByExpr : Type 0
SitesByExpr = (x : Expr) (is_test : Bool) → sites_of_expr x is_test ≡ sites_of_kind x.kind x.node x.line is_test

abbrev pub SitesByKind : Type 0
SitesByKind = (kind : ExprKind) (node : NodeId) (line : ℕ) (is_test : Bool) →
    sites_of_kind kind node line is_test ≡ kind_sites (map-ExprKind ExprKind Args Expr OfKind Sites Tested sites_of_kind sites_of_args sites_of_expr (out-ExprKind kind)) node line is_test

abbrev pub SitesByArgs : Type 0
SitesByArgs = (args : Args) → sites_of_args args ≡ args_sites (map-Args ExprKind Args Expr OfKind Sites Tested sites_of_kind sites_of_args sites_of_expr (out-Args args))

abbrev pub of_kind : StmtKind → OfStmt
of_kind kind = record { word = word_in kind; at = sites_at kind }

abbrev pub part_of : Stmt → Part
part_of stmt = record { word = word_of_stmt stmt; sites = sites_of_stmt stmt }

abbrev pub parts_of : StmtKind → StmtKind-F OfStmt Sites Part
parts_of kind = map-StmtKind StmtKind Clause Stmt OfStmt Sites Part of_kind sites_of_clause part_of (out-StmtKind kind)

abbrev pub SitesByStmt : Type 0
SitesByStmt = (stmt : Stmt) → sites_of_stmt stmt ≡ sites_at stmt.kind stmt.node stmt.line

abbrev pub WordByStmt : Type 0
WordByStmt = (stmt : Stmt) → word_of_stmt stmt ≡ word_in stmt.kind

abbrev pub SitesAt : Type 0
SitesAt = (kind : StmtKind) (node : NodeId) (line : ℕ) → sites_at kind node line ≡ (of_stmt (parts_of kind)).at node line

abbrev pub WordIn : Type 0
WordIn = (kind : StmtKind) → word_in kind ≡ word_by (parts_of kind)

abbrev pub SitesByClause : Type 0
SitesByClause = (clause : Clause) → sites_of_clause clause ≡ clause_sites (map-Clause StmtKind Clause Stmt OfStmt Sites Part of_kind sites_of_clause part_of (out-Clause clause))

-- ---- rewritten trees

abbrev pub ExprAgain : Type 0
ExprAgain = (patch : Patch) (x : Expr) → rewritten_expr patch x ≡ expr_by patch record { node = x.node; line = x.line; kind = rewritten_kind patch x.kind }

abbrev pub KindAgain : Type 0
KindAgain = (patch : Patch) (kind : ExprKind) →
    rewritten_kind patch kind ≡ kind_by patch (map-ExprKind ExprKind Args Expr ExprKind Args Expr (rewritten_kind patch) (rewritten_args patch) (rewritten_expr patch) (out-ExprKind kind))

abbrev pub ArgsAgain : Type 0
ArgsAgain = (patch : Patch) (args : Args) →
    rewritten_args patch args ≡ args_by patch (map-Args ExprKind Args Expr ExprKind Args Expr (rewritten_kind patch) (rewritten_args patch) (rewritten_expr patch) (out-Args args))

abbrev pub StmtAgain : Type 0
StmtAgain = (patch : Patch) (stmt : Stmt) → rewritten_stmt patch stmt ≡ stmt_by patch record { node = stmt.node; line = stmt.line; kind = rewritten_stmt_kind patch stmt.kind }

abbrev pub StmtKindAgain : Type 0
StmtKindAgain = (patch : Patch) (kind : StmtKind) →
    rewritten_stmt_kind patch kind ≡ stmt_kind_by patch (map-StmtKind StmtKind Clause Stmt StmtKind Clause Stmt (rewritten_stmt_kind patch) (rewritten_clause patch) (rewritten_stmt patch) (out-StmtKind kind))

abbrev pub ClauseAgain : Type 0
ClauseAgain = (patch : Patch) (clause : Clause) →
    rewritten_clause patch clause ≡ clause_by patch (map-Clause StmtKind Clause Stmt StmtKind Clause Stmt (rewritten_stmt_kind patch) (rewritten_clause patch) (rewritten_stmt patch) (out-Clause clause))
