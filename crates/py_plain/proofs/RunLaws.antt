-- The laws of whole runs, from what is claimed of them.
use Rattle.std.proofs.Common.{◌≡◌, ℕ, ◌+◌, ◌*◌, ◌≤◌, [], ◌∷◌, length, refl, ap, ◌∙◌, arith, Err}
use Rattle.std.specs.Prelude.{take}
use Rattle.py_syntax.specs.declared.stmt.Stmt.{Stmt}
use Rattle.py_meaning.specs.Worlds.{World}
use Rattle.py_plain.specs.declared.run.Abrupt.TheVariants.{OutOfSteps}
use Rattle.py_plain.specs.declared.state.State.{State}
use Rattle.py_plain.specs.LawsOfRuns.{with_more}
use Rattle.py_plain.specs.Program.{Program}
use Rattle.py_plain.specs.Runs.{Watcher}
use Rattle.py_plain.specs.SoundStates.{SoundState, KeptSound, FindingFits}
use Rattle.py_plain.specs.Statements.{means}
use Rattle.py_plain.specs.Tests.{Trail, recorder, Began, Decided}
use Rattle.py_plain.proofs.Appends.{Extends, extends_self, extends_both}
use Rattle.py_plain.proofs.Asserting.{take_front}
use Rattle.py_plain.proofs.Fine.{Sound, Paid, Prefix, Growth, Steady, Same, Out, more, allowed_none}
use Rattle.py_plain.proofs.Counting.{counts}
use Rattle.py_plain.proofs.FineRuns.{means_fine}
use Rattle.py_plain.proofs.FrugalOwn.{operations}

-- nothing is asked of what is kept
any_growth : {W : Type 0} → Watcher W → Growth W
any_growth watcher = record { watcher = watcher; follows = λ x y. Unit {0}; itself = λ x. tt; both = λ x y z h k. tt; began = λ node x. tt; judged = λ node judged outcome x. tt }

trails : Growth Trail
trails = record {
  watcher = recorder;
  follows = Extends;
  itself = extends_self;
  both = extends_both;
  began = λ node x. record { added = Began node ∷ []; same = refl };
  judged = λ node judged outcome x. record { added = Decided node judged outcome ∷ []; same = refl };
}

module _ {W : Type 0} (watcher : Watcher W) (program : Program) (stmt : Stmt) (s : State World W) where
  pub soundness_kept : SoundState s → KeptSound FindingFits s (means watcher program stmt s)
  unfolding any_growth
  soundness_kept h = (means_fine (any_growth watcher) Sound program (operations program) (λ on. cc) stmt s 0 (λ on. h)).sound refl

  pub objects_paid : length (means watcher program stmt s).1.objects + 2 * (means watcher program stmt s).1.left ≤ length s.objects + 2 * s.left
  unfolding any_growth
  objects_paid =
      let made = (means_fine (any_growth watcher) Paid program (operations program) (λ on. counts) stmt s 0 (λ on. cc)).paid refl in
      let none = allowed_none (any_growth watcher) Paid (means watcher program stmt s).0 in omega (arith, made, none)

  pub enough_steps : (m : ℕ) → ((means watcher program stmt s).0 ≡ Err OutOfSteps → ⊥) → means watcher program stmt (with_more m s) ≡ ((means watcher program stmt s).0, with_more m (means watcher program stmt s).1)
  unfolding any_growth
  enough_steps m h = same ((means_fine (any_growth watcher) Prefix program (operations program) (λ on. cc) stmt s m (λ on. cc)).steady refl)
    where
      same : Steady (any_growth watcher) Prefix m (means watcher program stmt s) (means watcher program stmt (more m s)) → means watcher program stmt (with_more m s) ≡ ((means watcher program stmt s).0, with_more m (means watcher program stmt s).1)
      same (Same e) = e
      same (Out e follows) = absurd (h e)

pub prefix : (program : Program) (stmt : Stmt) (s : State World Trail) (m : ℕ) → (means recorder program stmt s).0 ≡ Err OutOfSteps
    → take (length (means recorder program stmt s).1.seen) (means recorder program stmt (with_more m s)).1.seen ≡ (means recorder program stmt s).1.seen
unfolding trails
prefix program stmt s m h = begins ((means_fine trails Prefix program (operations program) (λ on. cc) stmt s m (λ on. cc)).steady refl)
  where
    cut : (xs ys : Trail) → Extends xs ys → take (length xs) ys ≡ xs
    cut xs ys h = ap (take (length xs)) h.same ∙ take_front xs h.added

    begins : Steady trails Prefix m (means recorder program stmt s) (means recorder program stmt (more m s)) → take (length (means recorder program stmt s).1.seen) (means recorder program stmt (with_more m s)).1.seen ≡ (means recorder program stmt s).1.seen
    begins (Same e) = ap (λ r. take (length (means recorder program stmt s).1.seen) r.1.seen) e ∙ cut (means recorder program stmt s).1.seen _ (extends_self _)
    begins (Out e follows) = cut (means recorder program stmt s).1.seen _ follows
