-- The lines of a statement, one level at a time.
use Rattle.std.proofs.Common.{◌≡◌, ap, ℕ, List}
use Rattle.py_language.specs.declared.token.Token.{Token}
use Rattle.py_syntax.specs.declared.stmt.Annotation.{Annotation}
use Rattle.py_syntax.specs.declared.stmt.Clause.{Clause, Clause-F, map-Clause, out-Clause, fold_out-Clause}
use Rattle.py_syntax.specs.declared.stmt.Stmt.{Stmt, fold_out-Stmt}
use Rattle.py_syntax.specs.declared.stmt.StmtKind.{StmtKind, StmtKind-F, map-StmtKind, out-StmtKind, fold_out-StmtKind}
use Rattle.py_layout.specs.Rows.{Placed, kind_rows, clause_rows, stmt_rows, rows_of, rows_of_clause, rows_of_kind}

module _ (annotated : Annotation → List Token) where
  abbrev pub parts_of_kind : StmtKind-F StmtKind Clause Stmt → StmtKind-F Placed Placed Placed
  parts_of_kind = map-StmtKind StmtKind Clause Stmt Placed Placed Placed (rows_of_kind annotated) (rows_of_clause annotated) (rows_of annotated)

  abbrev pub parts_of_clause : Clause-F StmtKind Clause Stmt → Clause-F Placed Placed Placed
  parts_of_clause = map-Clause StmtKind Clause Stmt Placed Placed Placed (rows_of_kind annotated) (rows_of_clause annotated) (rows_of annotated)

  pub by_statement : (stmt : Stmt) (column : ℕ) → rows_of annotated stmt column ≡ rows_of_kind annotated stmt.kind column
  unfolding rows_of rows_of_clause rows_of_kind
  by_statement stmt column = ap (λ p. p column) (fold_out-Stmt Placed Placed Placed (kind_rows annotated) (clause_rows annotated) (stmt_rows annotated) stmt)

  pub by_kind : (kind : StmtKind) (column : ℕ) → rows_of_kind annotated kind column ≡ kind_rows annotated (parts_of_kind (out-StmtKind kind)) column
  unfolding rows_of rows_of_clause rows_of_kind
  by_kind kind column = ap (λ p. p column) (fold_out-StmtKind Placed Placed Placed (kind_rows annotated) (clause_rows annotated) (stmt_rows annotated) kind)

  pub by_clause : (clause : Clause) (column : ℕ) → rows_of_clause annotated clause column ≡ clause_rows annotated (parts_of_clause (out-Clause clause)) column
  unfolding rows_of rows_of_clause rows_of_kind
  by_clause clause column = ap (λ p. p column) (fold_out-Clause Placed Placed Placed (kind_rows annotated) (clause_rows annotated) (stmt_rows annotated) clause)
