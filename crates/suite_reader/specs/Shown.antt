-- The display of a key and its value.
use Rattle.std.specs.Prelude.{Option}
use Rattle.py_syntax.specs.declared.expr.Expr.{Expr}
use Rattle.suite_model.specs.declared.suite.Shown.{Shown}
use Rattle.suite_file.specs.Spelled.{both_of, shown_in}

abbrev pub shown_pair : Expr × Expr → Option (Shown × Shown)
shown_pair pair = both_of (shown_in pair.0, shown_in pair.1)
