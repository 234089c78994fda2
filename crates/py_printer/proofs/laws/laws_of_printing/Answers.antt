use Rattle.py_printer.proofs.Characters.{texts_are_characters}
use Rattle.py_printer.proofs.LineLaw.{lines_read_back}
use Rattle.py_printer.proofs.ReadBack.{styled_read_back}
use Rattle.py_printer.proofs.laws.laws_of_printing.Goals as goal

pub returns-clause-back : goal.returns-clause-back
returns-clause-back c =
    styled_read_back c.laws_of_spelling.ensures.read_back c.laws_of_expressions.ensures.trees c.laws_of_expressions.ensures.sound_trees c.laws_of_expressions.ensures.balanced

pub returns-clause-lines : goal.returns-clause-lines
returns-clause-lines c = lines_read_back c.laws_of_spelling.ensures.read_back

pub returns-clause-characters : goal.returns-clause-characters
returns-clause-characters c = texts_are_characters c.laws_of_spelling.ensures.characters
