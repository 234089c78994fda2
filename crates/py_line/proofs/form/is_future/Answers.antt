use Rattle.std.specs.Str.{chars}
use Rattle.py_line.proofs.form.is_future.Goals as goal

pub returns : goal.returns
unfolding chars
returns c = c.is.ensures
