-- Worked examples of acceptance.
use Rattle.std.specs.Prelude.{◌≡◌, ℕ, pos, false, List, [], ◌∷◌, map, Option, None, Some, codes}
use Rattle.pyn_base.specs.declared.construct.Construct.{Construct}
use Rattle.pyn_base.specs.declared.construct.Construct.TheVariants as construct
use Rattle.py_syntax.specs.declared.expr.Expr.{Expr}
use Rattle.py_syntax.specs.declared.expr.ExprKind.{ExprKind}
use Rattle.py_syntax.specs.declared.expr.ExprKind.TheVariants as x
use Rattle.py_syntax.specs.declared.module.Item.{Item}
use Rattle.py_syntax.specs.declared.module.Item.TheVariants as item
use Rattle.py_syntax.specs.declared.module.Param.{Param}
use Rattle.py_syntax.specs.declared.stmt.Annotation.{Annotation}
use Rattle.py_syntax.specs.declared.stmt.Annotation.TheVariants as a
use Rattle.py_syntax.specs.declared.stmt.Stmt.{Stmt}
use Rattle.py_syntax.specs.declared.stmt.StmtKind.{StmtKind}
use Rattle.py_syntax.specs.declared.stmt.StmtKind.TheVariants as y
use Rattle.py_syntax.specs.declared.stmt.Target.TheVariants as target
use Rattle.py_scopes.specs.Refusals.{refusal}

abbrev pub e : ℕ → ExprKind → Expr
e line kind = record { node = record { 0 = 0 }; line = line; kind = kind }

abbrev pub s : ℕ → StmtKind → Stmt
s line kind = record { node = record { 0 = 0 }; line = line; kind = kind }

abbrev pub assign : ℕ → List ℕ → Expr → Item
assign line name value = item.Other (s line (y.Assign (target.Name name ∷ []) false None value))

abbrev pub one : ℕ → Expr
one line = e line (x.IntLit (pos 1))

abbrev pub read : ℕ → List ℕ → Expr
read line name = e line (x.Name name)

abbrev pub param : ℕ → Option Annotation → Param
param line annotation = record { name = codes "a"; annotation = annotation; default = None; line = line }

-- `def f(a):` on a line, and its body
abbrev pub func : ℕ → Option Annotation → List Stmt → Item
func line annotation body = item.Func record { node = record { 0 = 0 }; name = codes "f"; line = line; params = param line annotation ∷ []; returns = None; body = body }

abbrev pub judged : List Item → Option (ℕ × Construct)
judged items = refusal record { items = items; future = false; nodes = 0 }

-- `def f(a):`, `return a`
abbrev pub Accepted : Type 0
Accepted = judged (func 1 None (s 2 (y.Return (Some (read 2 (codes "a")))) ∷ []) ∷ []) ≡ None

-- `K = 1`, `def f(a):`, `return len`, where `K` and `len` are known and `b` isn't
abbrev pub Known : Type 0
Known =
    map (λ name. judged (assign 1 (codes "K") (one 1) ∷ func 2 None (s 3 (y.Return (Some (read 3 name))) ∷ []) ∷ [])) (codes "K" ∷ codes "len" ∷ codes "b" ∷ [])
    ≡ None ∷ None ∷ Some (3, construct.UnknownName) ∷ []

-- `x = [1]`; `x = b`; `x = 1` twice; `x = -1`, `x = [b]`: state comes before the name that is bound twice
abbrev pub Statements : Type 0
Statements =
    map judged
    ((assign 1 (codes "x") (e 1 (x.ListLit (one 1 ∷ []))) ∷ []) ∷ (assign 1 (codes "x") (read 1 (codes "b")) ∷ []) ∷ (assign 1 (codes "x") (one 1) ∷ assign 2 (codes "x") (one 2) ∷ [])
    ∷ (assign 1 (codes "x") (one 1) ∷ assign 2 (codes "x") (e 2 (x.ListLit (read 2 (codes "b") ∷ []))) ∷ []) ∷ [])
    ≡ Some (1, construct.ModuleState) ∷ Some (1, construct.ModuleStatement) ∷ Some (2, construct.DuplicateName) ∷ Some (2, construct.ModuleState) ∷ []

-- `a: int`; `a: foo`; `a: int[int]`; `a: List` without the import
abbrev pub Annotated : Type 0
Annotated =
    map (λ annotation. judged (func 1 (Some annotation) [] ∷ [])) (a.Named (codes "int") [] ∷ a.Named (codes "foo") [] ∷ a.Named (codes "int") (a.Named (codes "int") [] ∷ []) ∷ a.Named (codes "List") [] ∷ [])
    ≡ None ∷ Some (1, construct.Annotation) ∷ Some (1, construct.Annotation) ∷ Some (1, construct.Annotation) ∷ []

-- `break` in a loop, and outside of one; the lesser line counts, whatever its row
abbrev pub Loops : Type 0
Loops =
    map (λ body. judged (func 1 None body ∷ []))
    ((s 2 (y.While (one 2) (s 3 y.Break ∷ [])) ∷ []) ∷ (s 2 y.Break ∷ []) ∷ (s 2 (y.Return (Some (read 2 (codes "b")))) ∷ s 3 y.Break ∷ []) ∷ [])
    ≡ None ∷ Some (2, construct.BreakOutsideLoop) ∷ Some (2, construct.UnknownName) ∷ []
