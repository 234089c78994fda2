-- The part of a node in which a number is looked for.
use Rattle.std.specs.Prelude.{ℕ, Bool, true, List, [], ◌∷◌, map, Option, Some, None, nat_le, if◌then◌else◌}
use Rattle.py_syntax.specs.declared.expr.Expr.{Expr}
use Rattle.py_syntax.specs.declared.expr.ExprKind.{ExprKind, out-ExprKind}
use Rattle.py_syntax.specs.declared.stmt.StmtKind.{StmtKind, out-StmtKind}
use Rattle.py_sites.specs.Nodes.{Node, Nodes, number, parts, args_of, expr_parts, stmt_parts, statement, clause, expression}

-- A number is not above a limit, if there is one.
abbrev pub within : Option ℕ → ℕ → Bool
within None m = true
within (Some n) m = nat_le m n

-- the next one, unless its number is above the limit
abbrev pub nearer : Option ℕ → Option Node → Node → Option Node
nearer limit best x = if within limit (number x) then Some x else best

-- the last of the nodes whose own number is not above the limit, or what was found before
abbrev pub last_from : Option ℕ → Option Node → Nodes → Option Node
last_from limit best [] = best
last_from limit best (x ∷ xs) = last_from limit (nearer limit best x) xs

-- that of the parts of an expression
unfoldable pub expr_part : Option ℕ → ExprKind → Option Node
expr_part limit kind = last_from limit None (map expression (expr_parts args_of (out-ExprKind kind)))

-- that of the parts of a statement
unfoldable pub stmt_part : Option ℕ → StmtKind → Option Node
stmt_part limit kind = last_from limit None (stmt_parts expression statement clause (out-StmtKind kind))

-- what is made of something, if it is there
abbrev pub of_option : {X : Type 0} → (X → Nodes) → Option X → Nodes
of_option f None = []
of_option f (Some x) = f x

-- that of the parts of a node
unfoldable pub node_part : Option ℕ → Node → Option Node
node_part limit x = last_from limit None (parts x)

-- the value of a named argument
abbrev pub named_node : List ℕ × Expr → Nodes
named_node argument = expression argument.1 ∷ []
