use Rattle.std.specs.Str.{chars}
use Rattle.py_expr.proofs.symbols.is_super.Goals as goal

pub returns : goal.returns
unfolding chars
returns c = c.is.ensures
