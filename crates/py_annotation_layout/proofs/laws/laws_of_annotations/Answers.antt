use Rattle.py_annotation_layout.proofs.Back.{reads_back, annotations_sound, annotations_balanced}
use Rattle.py_annotation_layout.proofs.laws.laws_of_annotations.Goals as goal

pub returns-clause-back : goal.returns-clause-back
returns-clause-back c = reads_back c.laws_of_printing.ensures.lines c.laws_of_printing.ensures.characters c.laws_of_spelling.ensures.brackets c.laws_of_spelling.ensures.sound

pub returns-clause-sound : goal.returns-clause-sound
returns-clause-sound c = annotations_sound c.laws_of_printing.ensures.lines c.laws_of_printing.ensures.characters c.laws_of_spelling.ensures.brackets c.laws_of_spelling.ensures.sound

pub returns-clause-balanced : goal.returns-clause-balanced
returns-clause-balanced c = annotations_balanced c.laws_of_printing.ensures.lines c.laws_of_printing.ensures.characters c.laws_of_spelling.ensures.brackets c.laws_of_spelling.ensures.sound
