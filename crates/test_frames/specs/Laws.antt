-- What a run leaves of the frame that it begins in.
use Rattle.std.specs.Prelude.{◌≡◌, ℕ, false, List, [], ◌∷◌, Option, bytes_eq, codes}
use Rattle.pyn_base.specs.declared.ids.NodeId.{NodeId}
use Rattle.py_syntax.specs.declared.expr.Expr.{Expr}
use Rattle.py_syntax.specs.declared.stmt.Annotation.{Annotation}
use Rattle.py_syntax.specs.declared.stmt.Stmt.{Stmt}
use Rattle.py_syntax.specs.declared.stmt.StmtKind.TheVariants.{Assign, Bare}
use Rattle.py_syntax.specs.declared.stmt.Target.TheVariants as target
use Rattle.py_meaning.specs.Worlds.{World}
use Rattle.py_plain.specs.declared.state.State.{State}
use Rattle.py_plain.specs.Import.{imported}
use Rattle.py_plain.specs.Laws.{IsOfTest}
use Rattle.py_plain.specs.Program.{Program}
use Rattle.py_plain.specs.Runs.{Watcher}
use Rattle.py_plain.specs.Statements.{value_of, means}

-- an assignment to one name, and an expression alone
abbrev pub assigns_name : NodeId → ℕ → List ℕ → Option Annotation → Expr → Stmt
assigns_name node line name annotation e = record { node = node; line = line; kind = Assign (target.Name name ∷ []) false annotation e }

abbrev pub stands_alone : NodeId → ℕ → Expr → Stmt
stands_alone node line e = record { node = node; line = line; kind = Bare e }

module _ (W : Type 0) where
  -- An expression leaves its frame as it was: a function that it calls has a frame of its own, and gives the caller's back (Language
  -- Reference 4.1 and 6.3.4).
  abbrev pub FramesAreKept : Type 0
  FramesAreKept = (watcher : Watcher W) (program : Program) (e : Expr) (s : State World W) → (value_of watcher program e s).1.frame ≡ s.frame

  -- A test begins in a frame of a test, and its statements leave one: no function's, and no variable of the name that assertions call.
  abbrev pub ImportsAreTests : Type 0
  ImportsAreTests = (program : Program) (seen : W) → IsOfTest W (imported program seen)

  abbrev pub AssignmentsLeaveTests : Type 0
  AssignmentsLeaveTests = (watcher : Watcher W) (program : Program) (node : NodeId) (line : ℕ) (name : List ℕ) (annotation : Option Annotation) (e : Expr) (s : State World W)
      → bytes_eq name (codes "isinstance") ≡ false → IsOfTest W s → IsOfTest W (means watcher program (assigns_name node line name annotation e) s).1

  abbrev pub ExpressionsLeaveTests : Type 0
  ExpressionsLeaveTests = (watcher : Watcher W) (program : Program) (node : NodeId) (line : ℕ) (e : Expr) (s : State World W)
      → IsOfTest W s → IsOfTest W (means watcher program (stands_alone node line e) s).1
