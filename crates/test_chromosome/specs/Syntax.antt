-- The assignment that a step is, by what it makes.
use Rattle.std.specs.Prelude.{ℕ, false, [], ◌∷◌, None}
use Rattle.py_syntax.specs.declared.expr.Expr.{Expr}
use Rattle.py_syntax.specs.declared.stmt.Stmt.{Stmt}
use Rattle.py_syntax.specs.declared.stmt.StmtKind.TheVariants.{Assign}
use Rattle.py_syntax.specs.declared.stmt.Target.TheVariants as target
use Rattle.suite_model.specs.Statements.{variable}

abbrev pub assignment : ℕ → Expr → Stmt
assignment k right = record { node = record { 0 = 0 }; line = 1; kind = Assign (target.Name (variable k) ∷ []) false None right }
