use Rattle.py_layout.proofs.ModuleBack.{modules_read_back}
use Rattle.py_layout.proofs.laws.law_of_modules.Goals as goal

pub returns : goal.returns
returns c = modules_read_back c.laws_of_quiet.ensures.expressions c.laws_of_quiet.ensures.starts c.laws_of_expressions.ensures.own_shapes c.laws_of_expressions.ensures.trees
