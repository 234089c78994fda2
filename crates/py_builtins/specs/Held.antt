-- An answer beside what may change.
use Rattle.py_meaning.specs.declared.op.Op.{Op}
use Rattle.py_meaning.specs.declared.op.Op.TheVariants as op

abbrev pub beside : {S A : Type 0} → Op A → S → Op (A × S)
beside (op.Done a) s = op.Done (a, s)
beside (op.Raises class) s = op.Raises class
beside (op.Leaves construct) s = op.Leaves construct
beside op.OutOfSteps s = op.OutOfSteps
beside op.Memory s = op.Memory
