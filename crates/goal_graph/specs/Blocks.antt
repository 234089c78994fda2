-- The points of blocks, by the goal that governs them.
use Rattle.std.specs.Prelude.{Bool, true, false, List, [], ◌∷◌, ◌++◌, Option, Some, None}
use Rattle.std.specs.List.{flat_map}
use Rattle.py_syntax.specs.declared.expr.Expr.{Expr}
use Rattle.py_syntax.specs.declared.stmt.Clause.{Clause}
use Rattle.py_syntax.specs.declared.stmt.Stmt.{Stmt}
use Rattle.py_syntax.specs.declared.stmt.StmtKind.{StmtKind, StmtKind-F, out-StmtKind}
use Rattle.goal_model.specs.declared.kind.GoalKind.{GoalKind}
use Rattle.goal_model.specs.declared.kind.GoalKind.TheVariants.{Branch}
use Rattle.goal_model.specs.declared.point.Point.{Point}
use Rattle.goal_model.specs.declared.point.Point.TheVariants.{Decision}
use Rattle.goal_model.specs.Points.{points, points_in_clause}

abbrev pub all_points : GoalKind → List Stmt → List Point
all_points governor body = flat_map (λ stmt. points stmt governor) body

abbrev pub maybe_points : GoalKind → Option (List Stmt) → List Point
maybe_points governor None = []
maybe_points governor (Some body) = all_points governor body

abbrev pub clauses_points : GoalKind → List Clause → List Point
clauses_points governor clauses = flat_map (λ clause. points_in_clause clause governor) clauses

-- the tests of an `if`, each with its block, and what governs what comes after them
abbrev pub arm_points : GoalKind → Expr × List Stmt → List Point
arm_points governor arm = Decision arm.0.node arm.0.line governor ∷ all_points (Branch arm.0.node true) arm.1

abbrev pub arms_points : GoalKind → List (Expr × List Stmt) → List Point
arms_points governor [] = []
arms_points governor (arm ∷ more) = arm_points governor arm ++ arms_points (Branch arm.0.node false) more

abbrev pub governor_after : GoalKind → List (Expr × List Stmt) → GoalKind
governor_after governor [] = governor
governor_after governor (arm ∷ more) = governor_after (Branch arm.0.node false) more

abbrev pub if_node : StmtKind-F StmtKind Clause Stmt → Bool
if_node (StmtKind-F.If arms other) = true
if_node _ = false

abbrev pub is_if : StmtKind → Bool
is_if kind = if_node (out-StmtKind kind)
