use Rattle.py_printing.proofs.TextLaw.{texts_read_back}
use Rattle.py_printing.proofs.ExprLaw.{shapes_read_back, trees_read_back, expressions_read_back, sound_trees, sound_read_back, trees_balanced}
use Rattle.py_printing.proofs.laws.laws_of_expressions.Goals as goal

pub returns-clause-shapes : goal.returns-clause-shapes
returns-clause-shapes c = texts_read_back c.laws_of_spelling.ensures.read_back c.laws_of_spelling.ensures.brackets

pub returns-clause-trees : goal.returns-clause-trees
returns-clause-trees c = trees_read_back

pub returns-clause-expressions : goal.returns-clause-expressions
returns-clause-expressions c = expressions_read_back c.laws_of_spelling.ensures.read_back c.laws_of_spelling.ensures.brackets

pub returns-clause-sound_trees : goal.returns-clause-sound_trees
returns-clause-sound_trees c = sound_trees

pub returns-clause-sound : goal.returns-clause-sound
returns-clause-sound c = sound_read_back c.laws_of_spelling.ensures.read_back c.laws_of_spelling.ensures.brackets

pub returns-clause-balanced : goal.returns-clause-balanced
returns-clause-balanced c = trees_balanced c.laws_of_spelling.ensures.brackets

pub returns-clause-own_shapes : goal.returns-clause-own_shapes
returns-clause-own_shapes c = shapes_read_back
