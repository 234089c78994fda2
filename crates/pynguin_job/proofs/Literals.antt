-- Words that the program knows are ASCII: their characters are their bytes.
use Rattle.std.proofs.Common.{◌≡◌, refl, codes}
use Rattle.std.specs.Str.{chars}

pub module_word : chars (codes "--module") ≡ codes "--module"
unfolding chars
module_word = refl

pub suite_word : chars (codes "--suite") ≡ codes "--suite"
unfolding chars
suite_word = refl

pub report_word : chars (codes "--report") ≡ codes "--report"
unfolding chars
report_word = refl

pub pytest_word : chars (codes "pytest") ≡ codes "pytest"
unfolding chars
pytest_word = refl

pub ruleset literals = (module_word, suite_word, report_word, pytest_word)
