-- A callee that is no name means no built-in function.
use Rattle.std.proofs.Common.{◌≡◌, ℕ, List, None, refl, sym, ap, ◌∙◌}
use Rattle.py_syntax.specs.declared.expr.Args.{Args}
use Rattle.py_syntax.specs.declared.expr.Expr.{Expr}
use Rattle.py_syntax.specs.declared.expr.ExprKind.{ExprKind, ExprKind-F, out-ExprKind, roll-ExprKind, roll-out-ExprKind}
use Rattle.py_syntax.specs.declared.expr.ExprKind.TheVariants.{Name, rolls-Name}
use Rattle.py_syntax.specs.declared.stmt.Stmt.{Stmt}
use Rattle.py_meaning.specs.Worlds.{World}
use Rattle.py_plain.specs.declared.state.State.{State}
use Rattle.py_plain.specs.Expressions.{calls_expr, calls_meant}
use Rattle.py_plain.specs.Program.{Program}
use Rattle.py_plain.specs.Runs.{Watcher, Run, Finding}

module _ {W : Type 0} (watcher : Watcher W) (program : Program) (value : Expr → Run W Finding) (does : Stmt → Run W Finding) (e : Expr) (args : Args) (s : State World W) where
  by_kind : (kind : ExprKind-F ExprKind Args Expr) → ((name : List ℕ) → kind ≡ ExprKind-F.Name name → ⊥)
      → calls_expr watcher program value does kind e args s ≡ calls_meant watcher program value does None e args s
  by_kind (ExprKind-F.Name name) h = absurd (h name refl)
  by_kind (_) h = refl

  pub of_no_name : (kind : ExprKind) → ((name : List ℕ) → kind ≡ Name name → ⊥)
      → calls_expr watcher program value does (out-ExprKind kind) e args s ≡ calls_meant watcher program value does None e args s
  of_no_name kind h = by_kind (out-ExprKind kind) (λ name is. h name (sym (roll-out-ExprKind kind) ∙ ap roll-ExprKind is ∙ rolls-Name name))
