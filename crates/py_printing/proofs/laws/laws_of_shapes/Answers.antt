use Rattle.py_printing.proofs.TreeLaw.{fitting_read, tokens_fit, printed_read}
use Rattle.py_printing.proofs.laws.laws_of_shapes.Goals as goal

pub returns-clause-fitting : goal.returns-clause-fitting
returns-clause-fitting c = fitting_read

pub returns-clause-only : goal.returns-clause-only
returns-clause-only c = tokens_fit

pub returns-clause-back : goal.returns-clause-back
returns-clause-back c = printed_read
