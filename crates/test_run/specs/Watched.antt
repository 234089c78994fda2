-- What of a test is kept, whoever watches: the words of `suite_model`'s `Kept`, over what a watcher keeps in the place of the trail.
use Rattle.std.specs.Prelude.{◌≡◌, ℕ, ◌-◌, Bool, true, false, List, [], ◌∷◌, ◌++◌, Option, Some, None}
use Rattle.py_syntax.specs.declared.stmt.Stmt.{Stmt}
use Rattle.py_meaning.specs.Worlds.{World}
use Rattle.py_plain.specs.declared.run.End.{End}
use Rattle.py_plain.specs.declared.run.End.TheVariants as end
use Rattle.py_plain.specs.declared.state.State.{State}
use Rattle.py_plain.specs.Program.{Program}
use Rattle.py_plain.specs.Runs.{Watcher}
use Rattle.py_plain.specs.Tests.{run_statement}
use Rattle.suite_model.specs.declared.test.TestEnd.{TestEnd}
use Rattle.suite_model.specs.declared.test.TestEnd.TheVariants as test_end
use Rattle.timed_marks.specs.Timed.{Timed}

-- whether all statements of a test that ends so are kept, also the last
abbrev pub is_kept : TestEnd → Bool
is_kept test_end.Ok = true
is_kept (test_end.Raised class) = true
is_kept test_end.OutOfSteps = false
is_kept (test_end.Left construct) = false

-- how a test ends where a statement does: not at all after a normal end; and nothing is told where memory is wanted, or the machine has ended
abbrev pub end_after : End → Option (Option TestEnd)
end_after end.Normal = Some None
end_after (end.Raised id class) = Some (Some (test_end.Raised class))
end_after end.OutOfSteps = Some (Some test_end.OutOfSteps)
end_after (end.Left construct) = Some (Some (test_end.Left construct))
end_after end.Memory = None
end_after (end.Ended stop) = None

-- the steps of each kept statement, how the test ends, what was seen of the kept ones, and what was seen of all that ran
pub record Watched (W : Type 0) : Type 0 where
  pub used : List ℕ
  pub end : TestEnd
  pub seen : W
  pub all : W

module _ {W : Type 0} where
  abbrev pub ended : TestEnd → State World W → Watched W
  ended end s = record { used = []; end = end; seen = s.seen; all = s.seen }

  -- after a statement that isn't kept
  abbrev pub dropped : TestEnd → State World W → State World W → Watched W
  dropped end before after = record { used = []; end = end; seen = before.seen; all = after.seen }

  -- what is kept after these steps of earlier statements
  abbrev pub after_steps : List ℕ → Watched W → Watched W
  after_steps used kept = record kept { used = used ++ kept.used }

  abbrev pub kept_by : ℕ → End → State World W → State World W → Watched W → Watched W
  kept_by limit end.Normal before after rest = after_steps ((limit - after.left) ∷ []) rest
  kept_by limit (end.Raised id class) before after rest = after_steps ((limit - after.left) ∷ []) (ended (test_end.Raised class) after)
  kept_by limit end.OutOfSteps before after rest = dropped test_end.OutOfSteps before after
  kept_by limit (end.Left construct) before after rest = dropped (test_end.Left construct) before after
  kept_by limit end.Memory before after rest = dropped test_end.OutOfSteps before after
  kept_by limit (end.Ended stop) before after rest = dropped test_end.OutOfSteps before after

  abbrev pub kept_for : Watcher W → Program → ℕ → List Stmt → State World W → Watched W
  kept_for watcher program limit [] s = ended test_end.Ok s
  kept_for watcher program limit (stmt ∷ more) s =
      let r = run_statement watcher program limit stmt s in kept_by limit r.0 s r.1 (kept_for watcher program limit more r.1)

-- What a run tells: the steps of what is kept, how the test ends, when the last kept statement had ended, and all that was seen.
pub record Told (kept : Watched Timed) (used : List ℕ) (end : TestEnd) (clock : ℕ) (seen : Timed) : Type 0 where
  pub steps_are : used ≡ kept.used
  pub end_is : end ≡ kept.end
  pub clock_is : clock ≡ kept.seen.clock
  pub seen_is : seen ≡ kept.all
