-- The points of a statement and of a clause, one level at a time.
use Rattle.std.proofs.Common.{ap, ℕ}
use Rattle.pyn_base.specs.declared.ids.NodeId.{NodeId}
use Rattle.py_syntax.specs.declared.stmt.Clause.{fold_out-Clause}
use Rattle.py_syntax.specs.declared.stmt.Stmt.{fold_out-Stmt}
use Rattle.py_syntax.specs.declared.stmt.StmtKind.{fold_out-StmtKind}
use Rattle.goal_model.specs.Points.{Points, points_by, clause_points, stmt_points, points, points_in_clause, points_in_kind}
use Rattle.goal_model.specs.Laws.{ByStatement, ByKind, ByClause}

pub by_statement : ByStatement
unfolding points points_in_clause points_in_kind
by_statement stmt governor = ap (λ p. p governor) (fold_out-Stmt (NodeId → ℕ → Points) Points Points points_by clause_points stmt_points stmt)

pub by_kind : ByKind
unfolding points points_in_clause points_in_kind
by_kind kind node line governor = ap (λ p. p node line governor) (fold_out-StmtKind (NodeId → ℕ → Points) Points Points points_by clause_points stmt_points kind)

pub by_clause : ByClause
unfolding points points_in_clause points_in_kind
by_clause clause governor = ap (λ p. p governor) (fold_out-Clause (NodeId → ℕ → Points) Points Points points_by clause_points stmt_points clause)
