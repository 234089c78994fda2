-- What the code's lists of statements are numbered by.
use Rattle.std.specs.Prelude.{Bool, true, false, List, Option, map}
use Rattle.std.specs.Option.{option_map}
use Rattle.py_syntax.specs.declared.expr.Expr.{Expr}
use Rattle.py_syntax.specs.declared.stmt.Clause.{Clause}
use Rattle.py_syntax.specs.declared.stmt.Stmt.{Stmt}
use Rattle.py_syntax.specs.declared.stmt.StmtKind.{StmtKind, StmtKind-F, out-StmtKind}
use Rattle.py_language.specs.TreesNumbers.{Numbered, ◌>>=◌, plain, in_order}
use Rattle.py_nodes.specs.Expressions.{maybe, expr}
use Rattle.py_nodes.specs.Numbers.{stmt}

module _ (counted : Bool) where
  abbrev pub block_of : List Stmt → Numbered (List Stmt)
  block_of body = in_order (map (stmt counted) body)

  abbrev pub arm_of : Expr × List Stmt → Numbered (Expr × List Stmt)
  arm_of arm = do
    test ← expr counted arm.0
    body ← block_of arm.1
    plain (test, body)

  abbrev pub maybe_block_of : Option (List Stmt) → Numbered (Option (List Stmt))
  maybe_block_of body = maybe (option_map block_of body)

-- a statement without blocks
abbrev pub simple_node : StmtKind-F StmtKind Clause Stmt → Bool
simple_node (StmtKind-F.If arms other) = false
simple_node (StmtKind-F.While x b) = false
simple_node (StmtKind-F.For names is_tuple x b) = false
simple_node (StmtKind-F.Try b cs o f) = false
simple_node _ = true

abbrev pub is_simple : StmtKind → Bool
is_simple k = simple_node (out-StmtKind k)

abbrev pub if_node : StmtKind-F StmtKind Clause Stmt → Bool
if_node (StmtKind-F.If arms other) = true
if_node _ = false

abbrev pub is_if : StmtKind → Bool
is_if k = if_node (out-StmtKind k)
