-- Laws of whole runs: that they keep a sound state sound, that their objects are paid for, and how they go on with more steps.
use Rattle.std.specs.Prelude.{◌≡◌, ℕ, ◌+◌, ◌*◌, ◌≤◌, length, take, Err}
use Rattle.py_syntax.specs.declared.stmt.Stmt.{Stmt}
use Rattle.py_meaning.specs.Worlds.{World}
use Rattle.py_plain.specs.declared.run.Abrupt.TheVariants.{OutOfSteps}
use Rattle.py_plain.specs.declared.state.State.{State}
use Rattle.py_plain.specs.Program.{Program}
use Rattle.py_plain.specs.Runs.{Watcher}
use Rattle.py_plain.specs.SoundStates.{SoundState, KeptSound, FindingFits}
use Rattle.py_plain.specs.Statements.{means}
use Rattle.py_plain.specs.Tests.{Trail, recorder}

-- the same state with so many steps more
abbrev pub with_more : {W : Type 0} → ℕ → State World W → State World W
with_more m s = record s { left = m + s.left }

module _ (W : Type 0) where
  -- From a sound state each statement ends in a sound one. What was sound for the world before is sound for the world after, and an exception
  -- that is raised names an object there.
  abbrev pub SoundnessIsKept : Type 0
  SoundnessIsKept = (watcher : Watcher W) (program : Program) (stmt : Stmt) (s : State World W) → SoundState s → KeptSound FindingFits s (means watcher program stmt s)

  -- A run makes at most twice as many objects as it takes steps.
  abbrev pub ObjectsArePaid : Type 0
  ObjectsArePaid = (watcher : Watcher W) (program : Program) (stmt : Stmt) (s : State World W)
      → let r = means watcher program stmt s in length r.1.objects + 2 * r.1.left ≤ length s.objects + 2 * s.left

  -- A run that had enough steps is the same with more, and leaves so many more.
  abbrev pub EnoughStepsAreEnough : Type 0
  EnoughStepsAreEnough = (watcher : Watcher W) (program : Program) (stmt : Stmt) (s : State World W) (m : ℕ)
      → let r = means watcher program stmt s in (r.0 ≡ Err OutOfSteps → ⊥) → means watcher program stmt (with_more m s) ≡ (r.0, with_more m r.1)

-- With more steps the trail begins with that of a run that is out of steps.
abbrev pub OutOfStepsIsAPrefix : Type 0
OutOfStepsIsAPrefix = (program : Program) (stmt : Stmt) (s : State World Trail) (m : ℕ)
    → let r = means recorder program stmt s in r.0 ≡ Err OutOfSteps → take (length r.1.seen) (means recorder program stmt (with_more m s)).1.seen ≡ r.1.seen
