use Rattle.py_ops.proofs.Asides.{rest_by_number}
use Rattle.py_ops.proofs.arithmetic.rest_of_values.Goals as goal

pub returns-in_default : goal.returns-in_default
returns-in_default c = rest_by_number _ _ _ _ _ c.in_default.not-Str c.number.ensures c.number-in_default.ensures c.rest.ensures
