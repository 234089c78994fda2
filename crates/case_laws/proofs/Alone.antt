-- An assignment to a name that ends abruptly, and its right side alone: by one level of what both mean.
use Rattle.std.proofs.Common.{◌≡◌, ℕ, false, List, [], ◌∷◌, refl, sym, ap, ◌∙◌, Ok, Err}
use Rattle.pyn_base.specs.declared.ids.NodeId.{NodeId}
use Rattle.py_syntax.specs.declared.expr.Expr.{Expr}
use Rattle.py_syntax.specs.declared.stmt.Clause.{Clause}
use Rattle.py_syntax.specs.declared.stmt.Stmt.{Stmt}
use Rattle.py_syntax.specs.declared.stmt.StmtKind.{StmtKind, StmtKind-F, out-StmtKind}
use Rattle.py_syntax.specs.declared.stmt.StmtKind.TheVariants as stmt
use Rattle.py_syntax.specs.declared.stmt.Target.TheVariants as target
use Rattle.py_meaning.specs.Worlds.{World}
use Rattle.py_plain.specs.declared.run.Abrupt.{Abrupt}
use Rattle.py_plain.specs.declared.state.State.{State}
use Rattle.py_plain.specs.Assignments.{stores_to}
use Rattle.py_plain.specs.Laws.{StatementsByLevel}
use Rattle.py_plain.specs.Program.{Program}
use Rattle.py_plain.specs.Runs.{Watcher, Outcome, Ran, Run, Finding, begins, go_on, passes, ◌>>=◌, ◌>>◌}
use Rattle.py_plain.specs.Statements.{does_by, value_of, means}
use Rattle.case_laws.specs.Laws.{AbruptAlone}

module _ {W : Type 0} (by_level : StatementsByLevel W) (watcher : Watcher W) (program : Program) where
  abbrev value : Expr → Run W Finding
  value = value_of watcher program

  abbrev stored : List ℕ → Finding → Run W Finding
  stored name x = stores_to program value false (target.Name name ∷ []) x.0

  -- what follows the right side never ends abruptly
  after_value : (name : List ℕ) (end : Outcome Finding) (t : State World W) (why : Abrupt)
      → (go_on end t (stored name)).0 ≡ Err why → go_on end t (λ _. passes {W = W}) ≡ go_on end t (stored name)
  after_value name (Err other) t why h = refl
  after_value name (Ok x) t why h = cc

  after_step : (name : List ℕ) (e : Expr) (end : Outcome (Unit {0})) (t : State World W) (why : Abrupt)
      → (go_on end t (λ _. value e >>= stored name)).0 ≡ Err why → go_on end t (λ _. value e >> passes) ≡ go_on end t (λ _. value e >>= stored name)
  after_step name e (Err other) t why h = refl
  after_step name e (Ok x) t why h = after_value name (value e t).0 (value e t).1 why h

  abbrev doing : NodeId → StmtKind-F StmtKind Clause Stmt → Run W Finding
  doing node kind = begins watcher node >> does_by watcher program value (means watcher program) node kind

  by_kind : (node : NodeId) (line : ℕ) (kind : StmtKind) (level : StmtKind-F StmtKind Clause Stmt) → out-StmtKind kind ≡ level
      → (s : State World W) → means watcher program (record { node = node; line = line; kind = kind }) s ≡ doing node level s
  by_kind node line kind level is s = by_level watcher program (record { node = node; line = line; kind = kind }) s ∙ ap (λ (f : StmtKind-F StmtKind Clause Stmt). doing node f s) is

pub abrupt_alone : {W : Type 0} → StatementsByLevel W → AbruptAlone W
abrupt_alone {W} by_level watcher program node line other name annotation e s why h =
    let assigned = by_kind by_level watcher program node line (stmt.Assign (target.Name name ∷ []) false annotation e) (StmtKind-F.Assign (target.Name name ∷ []) false annotation e) (stmt.outs-Assign (target.Name name ∷ []) false annotation e) s in
    let alone = by_kind by_level watcher program node other (stmt.Bare e) (StmtKind-F.Bare e) (stmt.outs-Bare e) s in
    alone ∙ after_step by_level watcher program name e (begins watcher node s).0 (begins watcher node s).1 why (sym (ap (λ (r : Ran W Finding). r.0) assigned) ∙ h) ∙ sym assigned
