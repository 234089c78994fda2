-- A number that falls at each turn of a machine which takes no step of the program.
use Rattle.std.specs.Prelude.{◌≡◌, ℕ, ◌+◌, ◌*◌, ◌^◌, ◌<◌, ◌≤◌, List, length, Err}
use Rattle.std.specs.List.{sum_by}
use Rattle.py_plain.specs.declared.run.Abrupt.TheVariants.{OutOfSteps}
use Rattle.py_frames.specs.declared.control.Control.{Control}
use Rattle.py_frames.specs.declared.control.Control.TheVariants as c
use Rattle.py_frames.specs.declared.control.Doing.{Doing}
use Rattle.py_frames.specs.declared.control.Doing.TheVariants as d
use Rattle.py_frames.specs.declared.pending.Argument.TheVariants as argument
use Rattle.py_frames.specs.declared.pending.Pending.{Pending}
use Rattle.py_frames.specs.declared.pending.Pending.TheVariants as p
use Rattle.py_frames.specs.declared.pending.Step.TheVariants as step

-- An entry that may push others is heavier.
abbrev pub pending_weight : Pending → ℕ
pending_weight (p.Argument (argument.Initialized id)) = 1
pending_weight (p.Step step.RaiseMade) = 1
pending_weight _ = 3

abbrev pub weight_of : Control → ℕ
weight_of (c.Then pending) = pending_weight pending
weight_of (c.TryBody clauses other) = 3
weight_of (c.TryLast last) = 3
weight_of _ = 1

-- A node that can't begin is out of steps, which takes none.
abbrev pub load_of : Doing → ℕ
load_of (d.Eval e) = 1
load_of (d.Exec stmt) = 1
load_of (d.Block body) = 6
load_of (d.Finished (Err OutOfSteps)) = 0
load_of (d.Finished end) = 5

abbrev pub weight : List Control → ℕ
weight stack = sum_by weight_of stack

abbrev pub load : List Control → Doing → ℕ
load stack doing = weight stack + load_of doing

-- a step is taken, or the load falls
pub record Sinks (left left' load load' : ℕ) : Type 0 where
  pub fewer : left' ≤ left
  pub lighter : left' ≡ left → load' < load

-- Steps count for more than any load.
abbrev pub measure : ℕ → List Control → Doing → ℕ
measure left stack doing = left * 2 ^ 70 + load stack doing

-- where a step is taken or the load falls, so does this number
abbrev pub MeasureFalls : Type 0
MeasureFalls = (left left' : ℕ) (stack stack' : List Control) (doing doing' : Doing) → length stack' < 2 ^ 64
    → Sinks left left' (load stack doing) (load stack' doing') → measure left' stack' doing' < measure left stack doing
