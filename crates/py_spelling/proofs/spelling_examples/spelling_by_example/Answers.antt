use Rattle.std.proofs.Common.{refl}
use Rattle.std.specs.Fmt.{digits}
use Rattle.py_language.specs.TokensMarks.{marks}
use Rattle.py_spelling.specs.Spelling.{quoted}
use lib.Utf8.{encode}
use Rattle.py_spelling.proofs.spelling_examples.spelling_by_example.Goals as goal

pub returns-clause-escapes : goal.returns-clause-escapes
unfolding quoted encode
returns-clause-escapes c = refl

pub returns-clause-utf8 : goal.returns-clause-utf8
unfolding quoted encode
returns-clause-utf8 c = refl

pub returns-clause-marks_that_join : goal.returns-clause-marks_that_join
unfolding marks
returns-clause-marks_that_join c = refl

pub returns-clause-bracket_and_name : goal.returns-clause-bracket_and_name
unfolding marks
returns-clause-bracket_and_name c = refl

pub returns-clause-strings_apart : goal.returns-clause-strings_apart
unfolding quoted encode
returns-clause-strings_apart c = refl

pub returns-clause-rows : goal.returns-clause-rows
unfolding digits
returns-clause-rows c = refl
