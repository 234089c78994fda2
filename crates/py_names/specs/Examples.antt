-- Worked examples of the names that a function binds.
use Rattle.std.specs.Prelude.{◌≡◌, ℕ, pos, true, false, List, [], ◌∷◌, None, Some, codes}
use Rattle.py_syntax.specs.declared.expr.Expr.{Expr}
use Rattle.py_syntax.specs.declared.expr.ExprKind.TheVariants as x
use Rattle.py_syntax.specs.declared.module.Func.{Func}
use Rattle.py_syntax.specs.declared.module.Param.{Param}
use Rattle.py_syntax.specs.declared.operator.BinOp.TheVariants.{Add}
use Rattle.py_syntax.specs.declared.stmt.Clause.{Clause, roll-Clause}
use Rattle.py_syntax.specs.declared.stmt.Stmt.{Stmt}
use Rattle.py_syntax.specs.declared.stmt.StmtKind.{StmtKind}
use Rattle.py_syntax.specs.declared.stmt.StmtKind.TheVariants as y
use Rattle.py_syntax.specs.declared.stmt.Target.{Target}
use Rattle.py_syntax.specs.declared.stmt.Target.TheVariants as target
use Rattle.py_names.specs.Bound.{locals}

abbrev pub s : StmtKind → Stmt
s kind = record { node = record { 0 = 0 }; line = 1; kind = kind }

abbrev pub one : Expr
one = record { node = record { 0 = 0 }; line = 1; kind = x.IntLit (pos 1) }

abbrev pub assign : Target → Stmt
assign t = s (y.Assign (t ∷ []) false None one)

abbrev pub clause : List ℕ → List Stmt → Clause
clause name body = roll-Clause record { node = record { 0 = 0 }; line = 1; classes = None; name = Some name; body = body }

abbrev pub param : List ℕ → Param
param name = record { name = name; annotation = None; default = None; line = 1 }

abbrev pub func : List Param → List Stmt → Func
func params body = record { node = record { 0 = 0 }; name = codes "f"; line = 1; params = params; returns = None; body = body }

-- `def f(a):`, and in it `b = 1`, `1[1] = 1`, `1.g = 1`, `c += 1`
abbrev pub Targets : Type 0
Targets = locals (func (param (codes "a") ∷ []) (assign (target.Name (codes "b")) ∷ assign (target.Index one one) ∷ assign (target.Attr one (codes "g")) ∷ s (y.Augment (target.Name (codes "c")) Add one) ∷ []))
    ≡ codes "a" ∷ codes "b" ∷ codes "c" ∷ []

-- `if 1: a = 1`, `else: b = 1`
abbrev pub Branches : Type 0
Branches = locals (func [] (s (y.If ((one, assign (target.Name (codes "a")) ∷ []) ∷ []) (Some (assign (target.Name (codes "b")) ∷ []))) ∷ [])) ≡ codes "a" ∷ codes "b" ∷ []

-- `for a, b in 1: c = 1`, and `while 1: a = 1`
abbrev pub Loops : Type 0
Loops = locals (func [] (s (y.For (codes "a" ∷ codes "b" ∷ []) true one (assign (target.Name (codes "c")) ∷ [])) ∷ s (y.While one (assign (target.Name (codes "a")) ∷ [])) ∷ []))
    ≡ codes "a" ∷ codes "b" ∷ codes "c" ∷ codes "a" ∷ []

-- `try: a = 1`, `except E as e: b = 1`, `else: c = 1`, `finally: d = 1`
abbrev pub Handlers : Type 0
Handlers = locals (func [] (s (y.Try (assign (target.Name (codes "a")) ∷ []) (clause (codes "e") (assign (target.Name (codes "b")) ∷ []) ∷ []) (Some (assign (target.Name (codes "c")) ∷ [])) (Some (assign (target.Name (codes "d")) ∷ []))) ∷ []))
    ≡ codes "a" ∷ codes "e" ∷ codes "b" ∷ codes "c" ∷ codes "d" ∷ []
