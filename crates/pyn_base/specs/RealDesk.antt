use Rattle.std.specs.Prelude.{None}
use Rattle.pyn_base.specs.Desk.{DeskState}
use Rattle.pyn_base.specs.declared.real_desk.RealDesk.{RealDesk}

-- what the desk means: it tells nothing but its count
abbrev pub state_of : {R X Y : Type 0} → RealDesk R X Y → DeskState
state_of desk = record { faults = desk.faults; files = None; said = None; calls = None }
