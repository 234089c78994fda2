-- All that programs mean keeps the rule.
use Rattle.std.proofs.Common.{List, None, Option, [], refl, subst, suc, zero, ℕ, ◌∙◌, ◌∷◌, ◌≡◌}
use Rattle.std.specs.List.{AllByRecursion}
use Rattle.pyn_base.specs.declared.ids.FuncId.{FuncId}
use Rattle.py_syntax.specs.declared.expr.Expr.{Expr}
use Rattle.py_syntax.specs.declared.stmt.Stmt.{Stmt}
use Rattle.py_plain.specs.Import.{imported}
use Rattle.py_plain.specs.Nodes.{kind_of_expr, kind_of_stmt}
use Rattle.py_plain.specs.Runs.{stop}
use Rattle.py_plain.specs.Statements.{does_in, means, value_in}
use Rattle.py_plain.specs.Tests.{Trail, recorder, run_all, run_statement}
use Rattle.py_plain.specs.declared.run.Abrupt.TheVariants.{OutOfSteps}
use Rattle.py_plain.specs.declared.run.End.{End}
use Rattle.py_plain.specs.declared.run.End.TheVariants as end
use Rattle.py_sites.specs.Nodes.{args_of, expr_parts, expression, nodes, parts, statement}
use Rattle.goal_model.specs.Folds.{by_kind, by_statement}
use Rattle.goal_model.specs.Points.{points}
use Rattle.goal_model.specs.declared.kind.GoalKind.{GoalKind}
use Rattle.goal_model.specs.declared.kind.GoalKind.TheVariants.{Entry}
use Rattle.suite_model.specs.Kept.{Kept as KeptTest, kept_by, kept_from}
use Rattle.goal_laws.proofs.Held.{Bodies, Fits, Held, HeldExpr, HeldStmt, Inner, Parts, Placed, held_begins, held_parts, test_begins, test_fits}
use Rattle.goal_laws.proofs.Kept.{Kept, S, kept_begins, kept_bind, kept_then, quiet, quiet_stop}
use Rattle.goal_laws.proofs.KeptExpressions.{value_by_kept}
use Rattle.goal_laws.proofs.KeptStatements.{does_by_kept}
use Rattle.goal_laws.proofs.Lists.{all_always, all_mapped}
use Rattle.goal_laws.proofs.Trails.{Obeys, Reaches, Rule, grows_none, obeys_none, reaches_grows}

module _ (r : Rule) (bodies : Bodies r) where
  abbrev Levels : ℕ → Type 0
  Levels n = Parts r (value_in recorder r.program n) (does_in recorder r.program n)

  value_level : (n : ℕ) → Levels n → (f : Option FuncId) (e : Expr) → HeldExpr r f e → Kept r f [] (value_in recorder r.program (suc n) e)
  value_level n parts f e h = kept_then r _ _ (kept_begins r e.node (λ u grown. held_begins r f e h u))
      (λ _. value_by_kept r bodies _ _ parts f (kind_of_expr e) (all_mapped (Held r f) expression (expr_parts args_of (kind_of_expr e)) (held_parts r f (expression e) h)))

  stmt_level : (n : ℕ) → Levels n → (f : Option FuncId) (t : Trail) (governor : GoalKind) (stmt : Stmt) → HeldStmt r f stmt → Placed r f governor stmt → Reaches r f t governor → Kept r f t (does_in recorder r.program (suc n) stmt)
  stmt_level n parts f t governor stmt h p reach =
      let placed = subst (AllByRecursion (Fits r f)) (by_statement stmt governor) p in
      let inner = subst (AllByRecursion (Fits r f)) (by_kind stmt.kind stmt.node stmt.line governor) placed.1 in
      kept_bind r _ _ (kept_begins r stmt.node (λ u grown. placed.0 u (reaches_grows r f t u governor grown reach)))
      (λ u grown _. does_by_kept r bodies _ _ parts f u governor stmt.node stmt.line (kind_of_stmt stmt) (held_parts r f (statement stmt) h) inner (reaches_grows r f t u governor grown reach))

  levels : (n : ℕ) → Levels n
  levels zero = record { values = λ f e h. quiet r _ (quiet_stop OutOfSteps); statements = λ f t governor stmt h p reach. quiet r _ (quiet_stop OutOfSteps) }
  levels (suc n) = record { values = value_level n (levels n); statements = stmt_level n (levels n) }

  -- a statement of a test
  means_kept : (stmt : Stmt) → Kept r None [] (means recorder r.program stmt)
  unfolding means
  means_kept stmt = record {
    at = λ s e o grown.
        let none : FuncId = record { 0 = 0 } in
        ((levels s.left).statements None [] (Entry none) stmt (all_always (Inner r None) (test_begins r) (nodes (statement stmt))) (all_always (Fits r None) (test_fits r) (points stmt (Entry none))) tt).at s e o grown;
  }

  -- ---- statements of a test, one after another

  pub record Between (s : S) : Type 0 where
    pub test : s.frame.function ≡ None
    pub obeys : Obeys r s.seen

  after_statement : (limit : ℕ) (stmt : Stmt) (s : S) → Between s → Between (run_statement recorder r.program limit stmt s).1
  after_statement limit stmt s h =
      let ran = (means_kept stmt).at (record s { left = limit }) h.test h.obeys (grows_none s.seen) in
      record { test = ran.function ∙ h.test; obeys = ran.obeys }

  pub all_obey : (limit : ℕ) (stmts : List Stmt) (s : S) → Between s → Obeys r (run_all recorder r.program limit stmts s).1.seen
  all_obey limit [] s h = h.obeys
  all_obey limit (stmt ∷ more) s h = all_obey limit more (run_statement recorder r.program limit stmt s).1 (after_statement limit stmt s h)

  by_end : (limit : ℕ) (ending : End) (before after : S) (rest : KeptTest) → Obeys r before.seen → Obeys r after.seen → Obeys r rest.trail → Obeys r (kept_by limit ending before after rest).trail
  by_end limit end.Normal before after rest b a h = h
  by_end limit (end.Raised id class) before after rest b a h = a
  by_end limit end.OutOfSteps before after rest b a h = b
  by_end limit (end.Left construct) before after rest b a h = b
  by_end limit end.Memory before after rest b a h = b
  by_end limit (end.Ended stop) before after rest b a h = b

  pub kept_obey : (limit : ℕ) (stmts : List Stmt) (s : S) → Between s → Obeys r (kept_from r.program limit stmts s).trail
  kept_obey limit [] s h = h.obeys
  kept_obey limit (stmt ∷ more) s h =
      let ran = run_statement recorder r.program limit stmt s in
      let now = after_statement limit stmt s h in
      by_end limit ran.0 s ran.1 (kept_from r.program limit more ran.1) h.obeys now.obeys (kept_obey limit more ran.1 now)

  pub begin_between : Between (imported r.program [])
  begin_between = record { test = refl; obeys = obeys_none r }
