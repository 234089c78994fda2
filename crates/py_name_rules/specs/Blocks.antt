-- The names that blocks bind.
use Rattle.std.specs.Prelude.{ℕ, Bool, true, false, List, [], Option, Some, None}
use Rattle.std.specs.List.{flat_map}
use Rattle.py_syntax.specs.declared.expr.Expr.{Expr}
use Rattle.py_syntax.specs.declared.stmt.Clause.{Clause}
use Rattle.py_syntax.specs.declared.stmt.Stmt.{Stmt}
use Rattle.py_syntax.specs.declared.stmt.StmtKind.{StmtKind, StmtKind-F, out-StmtKind}
use Rattle.py_names.specs.Bound.{names_bound}

abbrev pub block_bound : List Stmt → List (List ℕ)
block_bound body = flat_map names_bound body

abbrev pub maybe_bound : Option (List Stmt) → List (List ℕ)
maybe_bound None = []
maybe_bound (Some body) = block_bound body

abbrev pub arms_bound : List (Expr × List Stmt) → List (List ℕ)
arms_bound arms = flat_map (λ arm. block_bound arm.1) arms

abbrev pub if_node : StmtKind-F StmtKind Clause Stmt → Bool
if_node (StmtKind-F.If arms other) = true
if_node _ = false

abbrev pub is_if : StmtKind → Bool
is_if kind = if_node (out-StmtKind kind)
