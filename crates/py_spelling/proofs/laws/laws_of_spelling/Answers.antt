use Rattle.py_spelling.proofs.RowSpelling.{rows_read_back}
use Rattle.py_spelling.proofs.BracketSpelling.{opens_none}
use Rattle.py_spelling.proofs.Soundness.{all_sound}
use Rattle.py_spelling.proofs.StringSpelling.{glyphs_are_characters}
use Rattle.py_spelling.proofs.laws.laws_of_spelling.Goals as goal

pub returns-clause-read_back : goal.returns-clause-read_back
returns-clause-read_back c = rows_read_back

pub returns-clause-brackets : goal.returns-clause-brackets
returns-clause-brackets c = opens_none

pub returns-clause-sound : goal.returns-clause-sound
returns-clause-sound c = all_sound

pub returns-clause-characters : goal.returns-clause-characters
returns-clause-characters c = glyphs_are_characters
