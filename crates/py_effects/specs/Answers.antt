-- How an operation on the objects ends a run, where its answer is known and the state has the objects and the steps that it left.
use Rattle.std.specs.Prelude.{◌≡◌, Ok, Err}
use Rattle.py_meaning.specs.declared.op.Op.{Op}
use Rattle.py_meaning.specs.declared.op.Op.TheVariants as op
use Rattle.py_meaning.specs.Worlds.{World}
use Rattle.py_plain.specs.declared.run.Abrupt.TheVariants.{OutOfSteps, Left}
use Rattle.py_plain.specs.declared.state.State.{State}
use Rattle.py_plain.specs.Runs.{Ran, raises}

abbrev pub Answers : {W A : Type 0} → Op A → State World W → Ran W A → Type 0
Answers (op.Done x) s r = (Ok x, s) ≡ r
Answers (op.Raises class) s r = raises class s ≡ r
Answers (op.Leaves construct) s r = (Err (Left construct), s) ≡ r
Answers op.OutOfSteps s r = (Err OutOfSteps, s) ≡ r
Answers op.Memory s r = ⊥
