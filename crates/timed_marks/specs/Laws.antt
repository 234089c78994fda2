-- What the times tell of a trail.
use Rattle.std.specs.Prelude.{◌≡◌, ℕ, ◌<◌, ◌++◌, replicate}
use Rattle.py_frames.specs.Marked.{unmarked}
use Rattle.py_plain.specs.Tests.{Trail}
use Rattle.goal_graph.specs.Graph.{marked_by}
use Rattle.timed_marks.specs.Timed.{untouched, timed_by, last_time, marks_before}

-- After a trail and more, what was set before the trail's end are the marks that the trail leaves.
abbrev pub TimesTell : Type 0
TimesTell = (nodes : ℕ) (trail more : Trail) → (timed_by trail (untouched nodes)).clock < last_time
    → marks_before (timed_by trail (untouched nodes)).clock (timed_by (trail ++ more) (untouched nodes)).times ≡ marked_by trail (replicate nodes unmarked)
