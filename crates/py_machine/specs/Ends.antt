-- How a statement ends a machine.
use Rattle.std.specs.Prelude.{◌≡◌, Option, Some, None}
use Rattle.py_meaning.specs.Worlds.{World}
use Rattle.py_plain.specs.declared.run.End.{End}
use Rattle.py_plain.specs.declared.run.End.TheVariants as end
use Rattle.py_plain.specs.declared.run.Stop.{Stop}
use Rattle.py_plain.specs.declared.run.Stop.TheVariants as stop
use Rattle.py_plain.specs.declared.state.State.{State}

-- What ends a machine for good: neither a normal end nor an exception.
abbrev pub stopped_by : End → Option Stop
stopped_by end.Normal = None
stopped_by (end.Raised id class) = None
stopped_by end.OutOfSteps = Some stop.OutOfSteps
stopped_by (end.Left construct) = Some (stop.Left construct)
stopped_by end.Memory = Some stop.Memory
stopped_by (end.Ended stop) = Some stop

-- a fact, unless memory was wanted
abbrev pub UnlessMemory : End → Type 0 → Type 0
UnlessMemory end.Memory fact = Unit {0}
UnlessMemory _ fact = fact

-- This end, in this state, is the meaning's, unless memory was wanted.
abbrev pub EndsAs : {W : Type 0} → End → State World W → End × State World W → Type 0
EndsAs end s meant = UnlessMemory end ((end, s) ≡ meant)
