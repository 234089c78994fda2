-- What one turn of the machine leaves.
use Rattle.std.specs.Prelude.{ℕ, List}
use Rattle.py_meaning.specs.Worlds.{World}
use Rattle.py_plain.specs.declared.state.State.{State}
use Rattle.py_plain.specs.Program.{Program}
use Rattle.py_plain.specs.Runs.{Watcher, Ran, Finding}
use Rattle.py_frames.specs.declared.control.Control.{Control}
use Rattle.py_frames.specs.declared.control.Doing.{Doing}
use Rattle.py_frames.specs.Loads.{load, Sinks}
use Rattle.py_frames.specs.Rest.{rest}
use Rattle.py_machine.specs.declared.run.Turn.{Turn}
use Rattle.py_machine.specs.declared.run.Turn.TheVariants.{Goes, Over}

-- what is still to be done after a turn
abbrev pub Turned : {W : Type 0} → Watcher W → Program → Turn → List Control → State World W → Ran W Finding
Turned watcher program (Goes doing) stack s = rest watcher program stack doing s
Turned watcher program (Over end) stack s = (end, s)

-- A step was taken or the load fell, unless the run is over.
abbrev pub TurnFalls : Turn → ℕ → ℕ → List Control → Doing → List Control → Type 0
TurnFalls (Goes doing') left left' stack doing stack' = Sinks left left' (load stack doing) (load stack' doing')
TurnFalls (Over end) left left' stack doing stack' = Unit {0}
