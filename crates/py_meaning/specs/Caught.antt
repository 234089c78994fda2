-- Answers in which one exception is caught.
use Rattle.std.specs.Prelude.{Bool, true, false}
use Rattle.pyn_base.specs.declared.class.BuiltClass.TheVariants.{KeyError}
use Rattle.py_meaning.specs.declared.op.Op.{Op}
use Rattle.py_meaning.specs.declared.op.Op.TheVariants as op
use Rattle.py_meaning.specs.Steps.{Costing}

-- an answer with something else for a missing key
abbrev pub where_missing : {A : Type 0} → A → Op A → Op A
where_missing other (op.Raises KeyError) = op.Done other
where_missing other answer = answer

-- whether a key was found
abbrev pub is_found : {A : Type 0} → Op A → Op Bool
is_found (op.Done x) = op.Done true
is_found (op.Raises KeyError) = op.Done false
is_found (op.Raises class) = op.Raises class
is_found (op.Leaves construct) = op.Leaves construct
is_found op.OutOfSteps = op.OutOfSteps
is_found op.Memory = op.Memory

-- the same steps, with the answer read otherwise
abbrev pub read_as : {A B : Type 0} → (Op A → Op B) → Costing A → Costing B
read_as f run left = (f (run left).0, (run left).1)
