use Rattle.std.specs.Str.{chars}
use Rattle.py_line.proofs.form.is_annotations.Goals as goal

pub returns : goal.returns
unfolding chars
returns c = c.is.ensures
