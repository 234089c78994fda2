-- What a statement and a clause bind, one level at a time.
use Rattle.std.proofs.Common.{◌∙◌}
use Rattle.py_syntax.specs.declared.stmt.Clause.{fold_out-Clause}
use Rattle.py_syntax.specs.declared.stmt.Stmt.{fold_out-Stmt}
use Rattle.py_syntax.specs.declared.stmt.StmtKind.{fold_out-StmtKind}
use Rattle.py_names.specs.Bound.{Spellings, bound_by, clause_bound, stmt_bound, names_bound, clause_names, kind_names}
use Rattle.py_names.specs.Laws.{ByStatement, ByClause}

pub by_statement : ByStatement
unfolding names_bound clause_names kind_names
by_statement stmt =
    fold_out-Stmt Spellings Spellings Spellings bound_by clause_bound stmt_bound stmt
    ∙ fold_out-StmtKind Spellings Spellings Spellings bound_by clause_bound stmt_bound stmt.kind

pub by_clause : ByClause
unfolding names_bound clause_names
by_clause clause = fold_out-Clause Spellings Spellings Spellings bound_by clause_bound stmt_bound clause
