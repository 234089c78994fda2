-- Displays in the parts of an expression.
use Rattle.std.specs.Prelude.{ℕ, Bool, false, List, Option, Some, None}
use Rattle.py_syntax.specs.declared.expr.Expr.{Expr}
use Rattle.py_syntax.specs.declared.operator.CmpOp.{CmpOp}
use Rattle.py_scopes.specs.Constants.{has_display}

abbrev pub maybe_display : Option Expr → Bool
maybe_display None = false
maybe_display (Some x) = has_display x

abbrev pub operand_display : CmpOp × Expr → Bool
operand_display pair = has_display pair.1

abbrev pub named_display : List ℕ × Expr → Bool
named_display row = has_display row.1
