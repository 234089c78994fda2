-- Words for the worked examples.
use Rattle.std.specs.Prelude.{true, false, List, [], ◌∷◌, map, Some, None, codes, pos}
use Rattle.py_syntax.specs.declared.expr.Expr.{Expr}
use Rattle.py_syntax.specs.declared.expr.ExprKind.{ExprKind}
use Rattle.py_syntax.specs.declared.expr.ExprKind.TheVariants as e
use Rattle.py_syntax.specs.declared.module.Func.{Func}
use Rattle.py_syntax.specs.declared.module.Item.{Item}
use Rattle.py_syntax.specs.declared.module.Item.TheVariants as item
use Rattle.py_syntax.specs.declared.module.Member.TheVariants as member
use Rattle.py_syntax.specs.declared.module.Module.{Module}
use Rattle.py_syntax.specs.declared.module.Param.{Param}
use Rattle.py_syntax.specs.declared.stmt.Stmt.{Stmt}
use Rattle.py_syntax.specs.declared.stmt.StmtKind.{StmtKind}
use Rattle.py_syntax.specs.declared.stmt.StmtKind.TheVariants as s
use Rattle.py_syntax.specs.declared.stmt.Target.TheVariants as to
use Prim.Native.String.{String}

abbrev pub expr : ExprKind → Expr
expr kind = record { node = record { 0 = 0 }; line = 1; kind = kind }

abbrev pub name : String → Expr
name text = expr (e.Name (codes text))

abbrev pub one : Expr
one = expr (e.IntLit (pos 1))

abbrev pub stmt : StmtKind → Stmt
stmt kind = record { node = record { 0 = 0 }; line = 1; kind = kind }

-- `return 1`
abbrev pub returned : Stmt
returned = stmt (s.Return (Some one))

-- `NAME = 1`
abbrev pub assigned : String → Stmt
assigned text = stmt (s.Assign (to.Name (codes text) ∷ []) false None one)

-- `NAME, = b`
abbrev pub unpacked : String → Stmt
unpacked text = stmt (s.Assign (to.Name (codes text) ∷ []) true None (name "b"))

abbrev pub passed : Stmt
passed = stmt s.Pass

abbrev pub param : String → Param
param text = record { name = codes text; annotation = None; default = None; line = 1 }

-- a function that returns 1
abbrev pub func : String → List String → Func
func text params = record { node = record { 0 = 0 }; name = codes text; line = 1; params = map param params; returns = None; body = returned ∷ [] }

abbrev pub module_of : List Item → Module
module_of items = record { items = items; future = false; nodes = 0 }

abbrev pub one_function : Module
one_function = module_of (item.Func (func "f" []) ∷ [])

abbrev pub a_class : Module
a_class = module_of (
    item.Import 1 (codes "Optional" ∷ [])
    ∷ item.Other (assigned "x")
    ∷ item.Class (record { name = codes "A"; base = Some (codes "B"); line = 1; members = member.Other (assigned "y") ∷ member.Func (func "f" ("self" ∷ [])) ∷ member.Func (func "g" ("self" ∷ "z" ∷ [])) ∷ [] })
    ∷ item.Func (func "h" [])
    ∷ [])

abbrev pub branches : Module
branches = module_of (item.Other (stmt (s.If ((name "a", unpacked "x" ∷ []) ∷ (name "b", passed ∷ []) ∷ []) (Some (passed ∷ passed ∷ [])))) ∷ [])
