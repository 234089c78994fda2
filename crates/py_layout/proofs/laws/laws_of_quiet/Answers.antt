use Rattle.py_layout.proofs.Quiet.{expressions_quiet}
use Rattle.py_layout.proofs.Starts.{expressions_begin}
use Rattle.py_layout.proofs.laws.laws_of_quiet.Goals as goal

pub returns-clause-expressions : goal.returns-clause-expressions
returns-clause-expressions c = expressions_quiet c.laws_of_shapes.ensures.only c.laws_of_expressions.ensures.own_shapes

pub returns-clause-starts : goal.returns-clause-starts
returns-clause-starts c = expressions_begin c.laws_of_shapes.ensures.only c.laws_of_expressions.ensures.own_shapes
