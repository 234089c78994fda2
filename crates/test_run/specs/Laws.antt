-- How a run with timed marks tells of one with a trail.
use Rattle.std.specs.Prelude.{◌≡◌, ℕ, ◌<◌, ◌≤◌, List, [], replicate}
use Rattle.py_syntax.specs.declared.stmt.Stmt.{Stmt}
use Rattle.py_frames.specs.declared.marks.Mark.{Mark}
use Rattle.py_frames.specs.Marked.{unmarked}
use Rattle.py_plain.specs.Import.{imported}
use Rattle.py_plain.specs.Program.{Program}
use Rattle.py_plain.specs.Tests.{Trail}
use Rattle.goal_model.specs.Goals.{Goal}
use Rattle.goal_graph.specs.Graph.{nodes_of, marked_by}
use Rattle.suite_model.specs.declared.test.TestEnd.{TestEnd}
use Rattle.suite_model.specs.Kept.{Kept, kept_from, taken_from}
use Rattle.timed_marks.specs.Timed.{Timed, timer, untouched, last_time, marks_before}
use Rattle.test_run.specs.Gains.{marked_from}
use Rattle.test_run.specs.Watched.{Watched, kept_for}

-- the marks that a trail leaves, of so many nodes
abbrev pub marks_of : ℕ → Trail → List Mark
marks_of nodes trail = marked_by trail (replicate nodes unmarked)

-- What a timed run tells is what a recorded one keeps: the steps, the end, and, before the time at which the last kept statement had ended, the marks
-- of the trail.
pub record TellsOf (nodes : ℕ) (watched : Watched Timed) (kept : Kept) : Type 0 where
  pub steps_are : watched.used ≡ kept.used
  pub end_is : watched.end ≡ kept.end
  pub marks_are : watched.seen.clock < last_time → marks_before watched.seen.clock watched.all.times ≡ marks_of nodes kept.trail

-- So it is from the import of a module on.
abbrev pub TimedAsKept : Type 0
TimedAsKept = (nodes : ℕ) (program : Program) (limit : ℕ) (stmts : List Stmt)
    → TellsOf nodes (kept_for timer program limit stmts (imported program (untouched nodes))) (kept_from program limit stmts (imported program []))

-- The marks of a trail give the goals that it takes.
abbrev pub MarksGive : Type 0
MarksGive = (goals : List Goal) (trail : Trail) (nodes : ℕ) → nodes_of goals ≤ nodes → marked_from 0 (marks_of nodes trail) goals ≡ taken_from 0 trail goals

-- What a run leaves of what is kept: the steps, the end, and the marks of the trail.
pub record LeavesKept (nodes : ℕ) (kept : Kept) (used : List ℕ) (end : TestEnd) (marks : List Mark) : Type 0 where
  pub steps_are : used ≡ kept.used
  pub end_is : end ≡ kept.end
  pub marks_are : marks ≡ marks_of nodes kept.trail
