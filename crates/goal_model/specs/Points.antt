-- The points of a body: where a statement begins, and where something is decided (Language Reference 7.3, 8.1 to 8.4), in the order of
-- reading. Each has the goal that governs it: the branch without which its block isn't run, or the function's entry.
use Rattle.std.specs.Prelude.{ℕ, true, false, List, [], ◌∷◌, ◌++◌, Option, None, Some}
use Rattle.std.specs.List.{flat_map}
use Rattle.pyn_base.specs.declared.ids.NodeId.{NodeId}
use Rattle.py_syntax.specs.declared.expr.Expr.{Expr}
use Rattle.py_syntax.specs.declared.stmt.Clause.{Clause, Clause-F, fold-Clause}
use Rattle.py_syntax.specs.declared.stmt.Stmt.{Stmt, Stmt-F, fold-Stmt}
use Rattle.py_syntax.specs.declared.stmt.StmtKind.{StmtKind, StmtKind-F, fold-StmtKind}
use Rattle.goal_model.specs.declared.kind.GoalKind.{GoalKind}
use Rattle.goal_model.specs.declared.kind.GoalKind.TheVariants.{Branch}
use Rattle.goal_model.specs.declared.point.Point.{Point}
use Rattle.goal_model.specs.declared.point.Point.TheVariants.{Statement, Decision}

-- what a part of a body has, by the goal that governs it
abbrev pub Points : Type 0
Points = GoalKind → List Point

abbrev pub block : List Points → Points
block parts governor = flat_map (λ part. part governor) parts

abbrev pub maybe_block : Option (List Points) → Points
maybe_block None governor = []
maybe_block (Some parts) governor = block parts governor

-- An `if` and its `elif`s: the next test, and the `else`, are governed by the false of the test before.
abbrev pub arms : List (Expr × List Points) → Option (List Points) → Points
arms [] other governor = maybe_block other governor
arms (arm ∷ more) other governor =
    Decision arm.0.node arm.0.line governor ∷ block arm.1 (Branch arm.0.node true) ++ arms more other (Branch arm.0.node false)

-- What is inside a statement, by its node, its line and its governor. The parts of a `try`, and the decisions of its clauses, are governed by
-- what governs it.
abbrev pub points_by : StmtKind-F (NodeId → ℕ → Points) Points Points → NodeId → ℕ → Points
points_by (StmtKind-F.If tests other) node line governor = arms tests other governor
points_by (StmtKind-F.While test body) node line governor = Decision test.node test.line governor ∷ block body (Branch test.node true)
points_by (StmtKind-F.For names is_tuple e body) node line governor = Decision node line governor ∷ block body (Branch node true)
points_by (StmtKind-F.Assert test message) node line governor = Decision test.node test.line governor ∷ []
points_by (StmtKind-F.Try body clauses other last) node line governor =
    block body governor ++ block clauses governor ++ maybe_block other governor ++ maybe_block last governor
points_by _ node line governor = []

abbrev pub clause_points : Clause-F (NodeId → ℕ → Points) Points Points → Points
clause_points clause governor = Decision clause.node clause.line governor ∷ block clause.body (Branch clause.node true)

abbrev pub stmt_points : Stmt-F (NodeId → ℕ → Points) Points Points → Points
stmt_points stmt governor = Statement stmt.node stmt.line governor ∷ stmt.kind stmt.node stmt.line governor

-- the points of a statement
unfoldable pub points : Stmt → Points
points = fold-Stmt (NodeId → ℕ → Points) Points Points points_by clause_points stmt_points

-- those of a clause
unfoldable pub points_in_clause : Clause → Points
points_in_clause = fold-Clause (NodeId → ℕ → Points) Points Points points_by clause_points stmt_points

-- those of what a statement is without its number and line
unfoldable pub points_in_kind : StmtKind → NodeId → ℕ → Points
points_in_kind = fold-StmtKind (NodeId → ℕ → Points) Points Points points_by clause_points stmt_points
