-- Whole loops, and all that programs mean, as `Fine` claims.
use Rattle.std.proofs.Common.{◌≡◌, ℕ, zero, suc, ◌+◌, ◌≤◌, Bool, List, refl, arith}
use Rattle.std.specs.Prelude.{if◌then◌else◌}
use Rattle.pyn_base.specs.declared.class.BuiltClass.TheVariants.{TypeError}
use Rattle.pyn_base.specs.declared.ids.NodeId.{NodeId}
use Rattle.py_syntax.specs.declared.expr.Expr.{Expr}
use Rattle.py_syntax.specs.declared.stmt.Stmt.{Stmt}
use Rattle.py_meaning.specs.declared.value.Value.{Value, out-Value}
use Rattle.py_meaning.specs.SoundRuns.{Fits}
use Rattle.py_meaning.specs.Worlds.{World}
use Rattle.py_plain.specs.declared.run.Abrupt.TheVariants.{OutOfSteps}
use Rattle.py_plain.specs.declared.run.Walk.{Walk}
use Rattle.py_plain.specs.declared.state.State.{State}
use Rattle.py_plain.specs.Loops.{while_turns, while_loop, for_turns, for_walk, for_value, is_walked, walk_from_start}
use Rattle.py_plain.specs.Nodes.{kind_of_expr, kind_of_stmt}
use Rattle.py_plain.specs.Program.{Program}
use Rattle.py_plain.specs.Runs.{Run, Finding, stop, raises}
use Rattle.py_plain.specs.Statements.{value_in, does_in, means}
use Rattle.py_plain.specs.SoundStates.{SoundState, FindingFits}
use Rattle.py_plain.proofs.Fine.{Claim, Paid, Growth, On, Fine, Good, Out, more, fine_at, fine_if, fine_more, fine_stop, fine_raises, fine_node}
use Rattle.py_plain.proofs.FineValues.{Counts, stops_fine}
use Rattle.py_plain.proofs.FineCalls.{Parts, value_by_fine}
use Rattle.py_plain.proofs.FineStatements.{while_turn_fine, for_turn_fine, does_by_fine}
use Rattle.py_plain.proofs.LikeValues.{Operations}

module _ {W : Type 0} (g : Growth W) (claim : Claim) (program : Program) (operations : Operations program) (counts : claim ≡ Paid → Counts) where
  abbrev Both : ℕ → World → Run W Finding → Run W Finding → Type 0
  Both c w p q = Fine g claim c w FindingFits p q

  -- a run that is out of steps, beside one that isn't
  out_fine : {c : ℕ} (w : World) (q : Run W Finding) → Both c w q q → Both c w (stop OutOfSteps) q
  out_fine {c} w q h =
      let none : Both c w (stop OutOfSteps) (stop OutOfSteps) = stops_fine g claim OutOfSteps (λ w' on. tt) in
      record {
        grows = h.grows;
        at = λ s m ready. record { sound = (none.at s m ready).sound; paid = (none.at s m ready).paid; steady = λ on. Out refl (h.grows on (more m s)) };
      }

  module _ (value value' : Expr → Run W Finding) (does does' : Stmt → Run W Finding) (parts : Parts g claim value value' does does') (self : Parts g claim value' value' does' does') where
    -- ---- `while`

    same_turns : (n : ℕ) (test : Expr) (body : List Stmt) (w : World) → Both 0 w (while_turns g.watcher program value' does' n test body) (while_turns g.watcher program value' does' n test body)
    same_turns zero test body w = fine_stop g claim OutOfSteps (λ w' on. tt)
    same_turns (suc n) test body w = while_turn_fine g claim program operations counts value' value' does' does' self w _ _ test body (same_turns n test body)

    more_turns : (n n' : ℕ) → n ≤ n' → (test : Expr) (body : List Stmt) (w : World) → Both 0 w (while_turns g.watcher program value does n test body) (while_turns g.watcher program value' does' n' test body)
    more_turns zero n' le test body w = out_fine w _ (same_turns n' test body w)
    more_turns (suc n) zero le test body w = absurd (omega arith)
    more_turns (suc n) (suc n') le test body w = while_turn_fine g claim program operations counts value value' does does' parts w _ _ test body (more_turns n n' (omega arith) test body)

    loops_fine : (w : World) (test : Expr) (body : List Stmt) → Both 2 w (while_loop g.watcher program value does test body) (while_loop g.watcher program value' does' test body)
    loops_fine w test body = fine_at g claim (λ s. while_turns g.watcher program value does s.left test body) (λ s. while_turns g.watcher program value' does' s.left test body)
        (λ s m wide now. fine_more g claim {c = 0} _ _ refl (more_turns s.left (m + s.left) (omega arith) test body s.objects))

    -- ---- `for`

    module _ (node : NodeId) (names : List (List ℕ)) (is_tuple : Bool) (body : List Stmt) where
      same_walk : (n : ℕ) (w : World) (walk : Walk) → On claim (Fits w walk.of) → Both 1 w (for_turns g.watcher program value' does' n node names is_tuple body walk) (for_turns g.watcher program value' does' n node names is_tuple body walk)
      same_walk zero w walk h = stops_fine g claim OutOfSteps (λ w' on. tt)
      same_walk (suc n) w walk h = for_turn_fine g claim program operations counts value' value' does' does' self w node _ _ names is_tuple body walk h (same_walk n)

      more_walk : (n n' : ℕ) → n ≤ n' → (w : World) (walk : Walk) → On claim (Fits w walk.of) → Both 1 w (for_turns g.watcher program value does n node names is_tuple body walk) (for_turns g.watcher program value' does' n' node names is_tuple body walk)
      more_walk zero n' le w walk h = out_fine w _ (same_walk n' w walk h)
      more_walk (suc n) zero le w walk h = absurd (omega arith)
      more_walk (suc n) (suc n') le w walk h = for_turn_fine g claim program operations counts value value' does does' parts w node _ _ names is_tuple body walk h (more_walk n n' (omega arith))

      walk_fine : (w : World) (walk : Walk) → On claim (Fits w walk.of) → Both 1 w (for_walk g.watcher program value does node names is_tuple body walk) (for_walk g.watcher program value' does' node names is_tuple body walk)
      walk_fine w walk h = fine_at g claim (λ s. for_turns g.watcher program value does (suc s.left) node names is_tuple body walk) (λ s. for_turns g.watcher program value' does' (suc s.left) node names is_tuple body walk)
          (λ s m wide now. more_walk (suc s.left) (suc (m + s.left)) (omega arith) s.objects walk (λ on. wide on walk.of (h on)))

      walks_fine : (w : World) (x : Value) → On claim (Fits w x) → Both 2 w (for_value g.watcher program value does node names is_tuple body x) (for_value g.watcher program value' does' node names is_tuple body x)
      walks_fine w x h = fine_at g claim (λ s. if is_walked s.objects (out-Value x) then for_walk g.watcher program value does node names is_tuple body (walk_from_start s.objects x) else raises TypeError)
          (λ s. if is_walked s.objects (out-Value x) then for_walk g.watcher program value' does' node names is_tuple body (walk_from_start s.objects x) else raises TypeError)
          (λ s m wide now. fine_more g claim {c = 1} _ _ refl (fine_if g claim (is_walked s.objects (out-Value x)) _ _ _ _ (walk_fine s.objects (walk_from_start s.objects x) (λ on. wide on x (h on))) (fine_raises g claim TypeError)))

  -- ---- all levels

  abbrev Levels : ℕ → ℕ → Type 0
  Levels n n' = Parts g claim (value_in g.watcher program n) (value_in g.watcher program n') (does_in g.watcher program n) (does_in g.watcher program n')

  one_level : (n n' : ℕ) → Levels n n' → Levels n' n' → Levels (suc n) (suc n')
  one_level n n' parts self = record {
    values = λ w e. fine_node g claim e.node _ _ (value_by_fine g claim program operations counts _ _ _ _ parts w (kind_of_expr e));
    statements = λ w stmt. fine_node g claim stmt.node _ _ (does_by_fine g claim program operations counts _ _ _ _ parts
        (loops_fine _ _ _ _ parts self) (λ w node names is_tuple body x h. walks_fine _ _ _ _ parts self node names is_tuple body w x h) w stmt.node (kind_of_stmt stmt));
  }

  same_levels : (n : ℕ) → Levels n n
  same_levels zero = record { values = λ w e. fine_stop g claim OutOfSteps (λ w' on. tt); statements = λ w stmt. fine_stop g claim OutOfSteps (λ w' on. tt) }
  same_levels (suc n) = one_level n n (same_levels n) (same_levels n)

  more_levels : (n n' : ℕ) → n ≤ n' → Levels n n'
  more_levels zero n' le = record { values = λ w e. out_fine w _ ((same_levels n').values w e); statements = λ w stmt. out_fine w _ ((same_levels n').statements w stmt) }
  more_levels (suc n) zero le = absurd (omega arith)
  more_levels (suc n) (suc n') le = one_level n n' (more_levels n n' (omega arith)) (same_levels n')

  pub means_fine : (stmt : Stmt) (s : State World W) (m : ℕ) → On claim (SoundState s) → Good g claim 0 FindingFits s m (means g.watcher program stmt s) (means g.watcher program stmt (more m s))
  unfolding means
  means_fine stmt s m h = ((more_levels s.left (m + s.left) (omega arith)).statements s.objects stmt).at s m (λ on. ((λ x y. y), h on))
