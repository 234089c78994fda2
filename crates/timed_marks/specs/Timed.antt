-- Marks with times: when each was first set, counted in events from 1. So what a run's last statement set can be told from what was set before it.
use Rattle.std.specs.Prelude.{ℕ, zero, suc, ◌+◌, ◌-◌, ◌^◌, min, nat_lt, Bool, true, false, List, [], ◌∷◌, Option, Some, None, map, replicate, slice_get, slice_set}
use Rattle.pyn_base.specs.declared.ids.NodeId.{NodeId}
use Rattle.py_frames.specs.declared.marks.Mark.{Mark}
use Rattle.py_plain.specs.Runs.{Watcher}
use Rattle.py_plain.specs.Tests.{Trail, Began, Decided}
use Rattle.timed_marks.specs.declared.times.Times.{Times}

-- the times of each node's marks, and the time of the next event
pub record Timed : Type 0 where
  pub times : List Times
  pub clock : ℕ

abbrev pub never : Times
never = record { began = 0; held = 0; failed = 0 }

-- of so many nodes, before the first event
abbrev pub untouched : ℕ → Timed
untouched nodes = record { times = replicate nodes never; clock = 1 }

-- ---- an event

-- when a mark was first set, once it is set now; 0 is never
abbrev pub first : ℕ → ℕ → ℕ
first zero now = now
first (suc time) now = suc time

abbrev pub begun_at : ℕ → Times → Times
begun_at now times = record times { began = first times.began now }

abbrev pub came_at : Bool → ℕ → Times → Times
came_at true now times = record times { held = first times.held now }
came_at false now times = record times { failed = first times.failed now }

abbrev pub set_at : (Times → Times) → NodeId → List Times → Option Times → List Times
set_at change node all None = all
set_at change node all (Some times) = slice_set all node.0 (change times)

-- the last time that a clock shows, where it stays
abbrev pub last_time : ℕ
last_time = 2 ^ 64 - 1

-- an event at a node; a node beyond all has no marks
abbrev pub after_event : (ℕ → Times → Times) → NodeId → Timed → Timed
after_event change node t = record { times = set_at (change t.clock) node t.times (slice_get t.times node.0); clock = min (t.clock + 1) last_time }

-- who keeps them
abbrev pub timer : Watcher Timed
timer = record { began = λ node t. after_event begun_at node t; judged = λ node judged outcome t. after_event (came_at outcome) node t }

-- what is kept after a trail
abbrev pub timed_by : Trail → Timed → Timed
timed_by [] t = t
timed_by (Began node ∷ trail) t = timed_by trail (after_event begun_at node t)
timed_by (Decided node judged outcome ∷ trail) t = timed_by trail (after_event (came_at outcome) node t)

-- ---- what was set before a time

abbrev pub is_before : ℕ → ℕ → Bool
is_before end zero = false
is_before end (suc time) = nat_lt (suc time) end

abbrev pub mark_before : ℕ → Times → Mark
mark_before end times = record { began = is_before end times.began; held = is_before end times.held; failed = is_before end times.failed }

abbrev pub marks_before : ℕ → List Times → List Mark
marks_before end all = map (mark_before end) all
