-- Worked examples: how many brackets the text of a module opens at once.
use Rattle.std.specs.Prelude.{ℕ, zero, suc, [], ◌∷◌, None, codes}
use Rattle.py_syntax.specs.declared.expr.Expr.{Expr}
use Rattle.py_syntax.specs.declared.expr.ExprKind.TheVariants as e
use Rattle.py_syntax.specs.declared.module.Item.TheVariants as item
use Rattle.py_syntax.specs.declared.module.Module.{Module}
use Rattle.py_syntax.specs.declared.stmt.StmtKind.TheVariants as s
use Rattle.module_printer.specs.Examples.{expr, module_of, param, passed, stmt}
use Rattle.printing_laws.specs.ReadBack.{HasFewBrackets}

-- a function `f(x)` whose body is `pass`
abbrev pub a_function : Module
a_function = module_of (item.Func (record { node = record { 0 = 0 }; name = codes "f"; line = 1; params = param "x" ∷ []; returns = None; body = passed ∷ [] }) ∷ [])

-- `[]` in so many lists
unfoldable pub nested : ℕ → Expr
nested zero = expr (e.ListLit [])
nested (suc n) = expr (e.ListLit (nested n ∷ []))

-- that alone
abbrev pub a_list : ℕ → Module
a_list n = module_of (item.Other (stmt (s.Bare (nested n))) ∷ [])

abbrev pub FunctionHasFew : Type 0
FunctionHasFew = HasFewBrackets a_function

abbrev pub FiftyAreFew : Type 0
FiftyAreFew = HasFewBrackets (a_list 49)

abbrev pub FiftyOneAreMany : Type 0
FiftyOneAreMany = HasFewBrackets (a_list 50) → ⊥
