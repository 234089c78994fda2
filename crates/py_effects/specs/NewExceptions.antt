-- New exceptions with arguments.
use Rattle.std.specs.Prelude.{List, Some}
use Rattle.pyn_base.specs.declared.class.ClassId.{ClassId}
use Rattle.pyn_base.specs.declared.ids.ObjId.{ObjId}
use Rattle.py_meaning.specs.declared.value.Value.{Value}
use Rattle.py_meaning.specs.Tuples.{measured}
use Rattle.py_plain.specs.Calls.{within_depth, makes_instance}
use Rattle.py_plain.specs.Runs.{Run, Finding, ◌>>=◌}

-- an exception that keeps its arguments, unless they would be too deep a tuple, and what follows
abbrev pub new_exception : {W : Type 0} → ClassId → List Value → (ObjId → Run W Finding) → Run W Finding
new_exception class args next = within_depth args (makes_instance class (Some (measured args)) >>= next)
