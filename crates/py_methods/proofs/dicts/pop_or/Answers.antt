use Rattle.py_methods.proofs.Settled.{not_raised}
use Rattle.py_methods.proofs.dicts.pop_or.Goals as goal

pub returns-in_default-clause-meant : goal.returns-in_default-clause-meant
returns-in_default-clause-meant c = not_raised _ _ _ _ _ _ _ c.in_default.not-Raises c.pop_key.ensures.meant
