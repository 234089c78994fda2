-- The points of a statement, one level at a time.
use Rattle.std.specs.Prelude.{◌≡◌, ◌∷◌, ℕ}
use Rattle.pyn_base.specs.declared.ids.NodeId.{NodeId}
use Rattle.py_syntax.specs.declared.stmt.Clause.{Clause, Clause-F, map-Clause, out-Clause}
use Rattle.py_syntax.specs.declared.stmt.Stmt.{Stmt}
use Rattle.py_syntax.specs.declared.stmt.StmtKind.{StmtKind, StmtKind-F, map-StmtKind, out-StmtKind}
use Rattle.goal_model.specs.declared.kind.GoalKind.{GoalKind}
use Rattle.goal_model.specs.declared.point.Point.TheVariants.{Statement}
use Rattle.goal_model.specs.Points.{Points, points_by, clause_points, points, points_in_clause, points_in_kind}

-- a statement with the points of its parts in their places
abbrev pub parts_of_kind : StmtKind-F StmtKind Clause Stmt → StmtKind-F (NodeId → ℕ → Points) Points Points
parts_of_kind = map-StmtKind StmtKind Clause Stmt (NodeId → ℕ → Points) Points Points points_in_kind points_in_clause points

abbrev pub parts_of_clause : Clause-F StmtKind Clause Stmt → Clause-F (NodeId → ℕ → Points) Points Points
parts_of_clause = map-Clause StmtKind Clause Stmt (NodeId → ℕ → Points) Points Points points_in_kind points_in_clause points

abbrev pub ByStatement : Type 0
ByStatement = (stmt : Stmt) (governor : GoalKind) →
    points stmt governor ≡ Statement stmt.node stmt.line governor ∷ points_in_kind stmt.kind stmt.node stmt.line governor

abbrev pub ByKind : Type 0
ByKind = (kind : StmtKind) (node : NodeId) (line : ℕ) (governor : GoalKind) →
    points_in_kind kind node line governor ≡ points_by (parts_of_kind (out-StmtKind kind)) node line governor

abbrev pub ByClause : Type 0
ByClause = (clause : Clause) (governor : GoalKind) → points_in_clause clause governor ≡ clause_points (parts_of_clause (out-Clause clause)) governor
