-- Worked examples of the assertions of a suite file.
use Rattle.std.specs.Prelude.{◌≡◌, pos, true, false, [], ◌∷◌, None, codes}
use Rattle.py_syntax.specs.declared.expr.Expr.{Expr}
use Rattle.py_syntax.specs.declared.expr.ExprKind.TheVariants as x
use Rattle.py_syntax.specs.declared.operator.CmpOp.{CmpOp}
use Rattle.py_syntax.specs.declared.operator.CmpOp.TheVariants.{Eq, Same}
use Rattle.py_syntax.specs.declared.operator.Sign.TheVariants.{Minus}
use Rattle.py_syntax.specs.declared.stmt.Stmt.{Stmt}
use Rattle.py_syntax.specs.declared.stmt.StmtKind.TheVariants as y
use Rattle.py_plain.specs.Assertions.{is_assertion}
use Rattle.py_plain.specs.Examples.{e, s, args}

abbrev var_0 : Expr
var_0 = e 0 (x.Name (codes "var_0"))

abbrev asserted : Expr → Stmt
asserted condition = s 0 (y.Assert condition None)

abbrev compared : Expr → CmpOp → Expr → Stmt
compared subject op other = asserted (e 0 (x.Compare subject ((op, other) ∷ [])))

-- [(True, -2), {"a": None}]
abbrev display : Expr
display = e 0 (x.ListLit (
    e 0 (x.TupleLit (e 0 (x.BoolLit true) ∷ e 0 (x.Unary Minus (e 0 (x.IntLit (pos 2)))) ∷ []))
    ∷ e 0 (x.DictLit ((e 0 (x.StrLit (codes "a")), e 0 x.NoneLit) ∷ [])) ∷ []))

-- assert var_0.total == [(True, -2), {"a": None}]
abbrev pub EqualsDisplay : Type 0
EqualsDisplay = is_assertion 3 (compared (e 0 (x.Attr var_0 (codes "total"))) Eq display) ≡ true

abbrev pub TooManyLevels : Type 0
TooManyLevels = is_assertion 2 (compared (e 0 (x.Attr var_0 (codes "total"))) Eq display) ≡ false

-- assert var_0 is False
abbrev pub IsFalseLiteral : Type 0
IsFalseLiteral = is_assertion 1 (compared var_0 Same (e 0 (x.BoolLit false))) ≡ true

-- assert var_0 is var_0
abbrev pub IsVariable : Type 0
IsVariable = is_assertion 1 (compared var_0 Same var_0) ≡ false

-- assert isinstance(var_0, module_0.A)
abbrev pub IsInstance : Type 0
IsInstance = is_assertion 1 (asserted (e 0 (x.Call (e 0 (x.Name (codes "isinstance"))) (args (var_0 ∷ e 0 (x.Attr (e 0 (x.Name (codes "module_0"))) (codes "A")) ∷ []) [])))) ≡ true

-- assert len(var_0) == 1
abbrev pub OfCall : Type 0
OfCall = is_assertion 1 (compared (e 0 (x.Call (e 0 (x.Name (codes "len"))) (args (var_0 ∷ []) []))) Eq (e 0 (x.IntLit (pos 1)))) ≡ false
