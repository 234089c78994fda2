use Rattle.py_ops.proofs.Asides.{always}
use Rattle.py_ops.proofs.comparisons.compare.Goals as goal

pub returns-in-Same-clause-meant : goal.returns-in-Same-clause-meant
returns-in-Same-clause-meant c = rw c.in-Same.is (always _ (c.identical.ensures _))
