-- Short words for the worked examples.
use Rattle.std.specs.Prelude.{ℕ, false, List, [], ◌∷◌, ◌++◌, Option, None}
use Rattle.pyn_base.specs.declared.ids.FuncId.{FuncId}
use Rattle.pyn_base.specs.declared.ids.NodeId.{NodeId}
use Rattle.py_syntax.specs.declared.expr.Args.{Args, roll-Args}
use Rattle.py_syntax.specs.declared.expr.Expr.{Expr}
use Rattle.py_syntax.specs.declared.expr.ExprKind.{ExprKind}
use Rattle.py_syntax.specs.declared.module.Class.{Class}
use Rattle.py_syntax.specs.declared.module.Func.{Func}
use Rattle.py_syntax.specs.declared.module.Item.{Item}
use Rattle.py_syntax.specs.declared.module.Member.{Member}
use Rattle.py_syntax.specs.declared.module.Module.{Module}
use Rattle.py_syntax.specs.declared.module.Param.{Param}
use Rattle.py_syntax.specs.declared.stmt.Clause.{Clause, roll-Clause}
use Rattle.py_syntax.specs.declared.stmt.Stmt.{Stmt}
use Rattle.py_syntax.specs.declared.stmt.StmtKind.{StmtKind}
use Rattle.py_meaning.specs.Worlds.{World, Attributes}
use Rattle.py_meaning.specs.declared.value.Value.{Value}
use Rattle.py_plain.specs.declared.run.End.{End}
use Rattle.py_plain.specs.declared.run.Walk.{Walk}
use Rattle.py_plain.specs.declared.state.State.{State}
use Rattle.py_plain.specs.Import.{imported}
use Rattle.py_plain.specs.Program.{program_of}
use Rattle.py_plain.specs.Statements.{means}
use Rattle.py_plain.specs.Tests.{Trail, Event, Began, recorder, end_of}

-- ---- trees

abbrev pub node : ℕ → NodeId
node n = record { 0 = n }

-- an event of a trail
abbrev pub began : ℕ → Event
began n = Began (node n)

abbrev pub func_id : ℕ → FuncId
func_id n = record { 0 = n }

abbrev pub e : ℕ → ExprKind → Expr
e n kind = record { node = node n; line = 1; kind = kind }

abbrev pub s : ℕ → StmtKind → Stmt
s n kind = record { node = node n; line = 1; kind = kind }

-- where a loop is: what it walks, a dict's length and key changes at the start, and the next place
abbrev pub walk_at : Value → ℕ → ℕ → ℕ → Walk
walk_at of size changes at = record { of = of; size = size; changes = changes; at = at }

abbrev pub args : List Expr → List (List ℕ × Expr) → Args
args plain named = roll-Args record { plain = plain; named = named }

abbrev pub clause : ℕ → Option (List (List ℕ)) → Option (List ℕ) → List Stmt → Clause
clause n classes name body = roll-Clause record { node = node n; line = 1; classes = classes; name = name; body = body }

abbrev pub param : List ℕ → Option Expr → Param
param name default = record { name = name; annotation = None; default = default; line = 1 }

abbrev pub func : ℕ → List ℕ → List Param → List Stmt → Func
func n name params body = record { node = node n; name = name; line = 1; params = params; returns = None; body = body }

abbrev pub class : List ℕ → Option (List ℕ) → List Member → Class
class name base members = record { name = name; base = base; line = 1; members = members }

abbrev pub module_of : List Item → ℕ → Module
module_of items nodes = record { items = items; future = false; nodes = nodes }

-- ---- what a test shows: the end of each statement and the steps left, and at last the variables, the objects and the trail

pub record Shown : Type 0 where
  pub ends : List (End × ℕ)
  pub variables : Attributes
  pub objects : World
  pub trail : Trail

abbrev pub shown_from : Module → ℕ → List (End × ℕ) → List Stmt → State World Trail → Shown
shown_from m limit done [] state = record { ends = done; variables = state.frame.variables; objects = state.objects; trail = state.seen }
shown_from m limit done (stmt ∷ more) state =
    let r = means recorder (program_of m) stmt (record state { left = limit }) in
    shown_from m limit (done ++ (end_of r.1.objects r.0, r.1.left) ∷ []) more r.1

-- a test on a module, each statement with so many steps
abbrev pub shows : Module → ℕ → List Stmt → Shown
shows m limit stmts = shown_from m limit [] stmts (imported (program_of m) [])
