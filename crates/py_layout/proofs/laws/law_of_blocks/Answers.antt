use Rattle.py_layout.proofs.BlockBack.{blocks_read_back}
use Rattle.py_layout.proofs.laws.law_of_blocks.Goals as goal

pub returns : goal.returns
returns c = blocks_read_back c.laws_of_quiet.ensures.expressions c.laws_of_quiet.ensures.starts c.laws_of_expressions.ensures.own_shapes c.laws_of_expressions.ensures.trees
