-- The points of blocks that may be missing, and of the arms of an `if`, beside their nodes.
use Rattle.std.proofs.Common.{List, None, Option, Some, map, ◌∷◌}
use Rattle.py_syntax.specs.declared.expr.Expr.{Expr}
use Rattle.py_syntax.specs.declared.stmt.Stmt.{Stmt}
use Rattle.py_sites.specs.Nodes.{Node, expression, statement}
use Rattle.goal_model.specs.Points.{Points, points}

abbrev pub maybe_parts : Option (List Stmt) → Option (List Points)
maybe_parts None = None
maybe_parts (Some body) = Some (map points body)

abbrev pub Arm : Type 0
Arm = Expr × List Stmt

abbrev pub arm_nodes : Arm → List Node
arm_nodes arm = expression arm.0 ∷ map statement arm.1

abbrev pub arm_parts : Arm → Expr × List Points
arm_parts arm = (arm.0, map points arm.1)
