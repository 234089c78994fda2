-- What a transition leaves to do.
use Rattle.std.specs.Prelude.{List}
use Rattle.py_syntax.specs.declared.expr.Args.{Args}
use Rattle.py_syntax.specs.declared.expr.Expr.{Expr}
use Rattle.py_syntax.specs.declared.expr.ExprKind.{ExprKind, ExprKind-F}
use Rattle.py_meaning.specs.Worlds.{World}
use Rattle.py_plain.specs.declared.state.State.{State}
use Rattle.py_plain.specs.Expressions.{value_by}
use Rattle.py_plain.specs.Program.{Program}
use Rattle.py_plain.specs.Runs.{Watcher, Run, Finding}
use Rattle.py_plain.specs.Statements.{value_of, means}
use Rattle.py_frames.specs.declared.control.Control.{Control}
use Rattle.py_frames.specs.declared.control.Doing.{Doing}
use Rattle.py_frames.specs.Rest.{Goes}

-- A node that has begun goes on so, from any state: its first part is done next, and the node waits for it.
abbrev pub Starts : (W : Type 0) → List Control → ExprKind-F ExprKind Args Expr → List Control → Doing → Type 0
Starts W stack kind stack' next = (watcher : Watcher W) (program : Program) (s : State World W)
    → Goes watcher program stack (value_by watcher program (value_of watcher program) (means watcher program) kind) s stack' next s

-- What was to be done under the stack is what is left to do, whoever watches.
abbrev pub Continues : {W : Type 0} → (Watcher W → Program → Run W Finding) → List Control → State World W → List Control → Doing → State World W → Type 0
Continues run stack s stack' next s' = (watcher : Watcher _) (program : Program) → Goes watcher program stack (run watcher program) s stack' next s'

-- The same from any state, which stays as it is.
abbrev pub Anywhere : (W : Type 0) → (Watcher W → Program → Run W Finding) → List Control → List Control → Doing → Type 0
Anywhere W run stack stack' next = (s : State World W) → Continues run stack s stack' next s

-- What was to be done is what is left to do, whoever watches a run of this program.
abbrev pub GoesOn : {W : Type 0} → Program → (Watcher W → Run W Finding) → List Control → State World W → List Control → Doing → State World W → Type 0
GoesOn program run stack s stack' next s' = (watcher : Watcher _) → Goes watcher program stack (run watcher) s stack' next s'
