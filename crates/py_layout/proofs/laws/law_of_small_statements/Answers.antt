use Rattle.py_layout.proofs.SmallForms.{small_read_back}
use Rattle.py_layout.proofs.laws.law_of_small_statements.Goals as goal

pub returns : goal.returns
returns c = small_read_back c.laws_of_quiet.ensures.expressions c.laws_of_quiet.ensures.starts c.laws_of_expressions.ensures.own_shapes
