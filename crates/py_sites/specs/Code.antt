-- What the code asks of arguments.
use Rattle.std.specs.Prelude.{ℕ, Bool, List, nat_lt}
use Rattle.py_syntax.specs.declared.expr.Expr.{Expr}

-- whether a named argument was written before the argument that has this number
abbrev pub precedes : ℕ → List ℕ × Expr → Bool
precedes n argument = nat_lt argument.1.node.0 n
