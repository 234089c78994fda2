-- What a statement assigns to one name, by its kind.
use Rattle.py_syntax.specs.declared.stmt.StmtKind.TheVariants.{outs-Pass, outs-Break, outs-Continue, outs-Return, outs-Raise, outs-Assert, outs-Del, outs-Assign, outs-Augment, outs-Bare, outs-If, outs-While, outs-For, outs-Try}

pub ruleset assigned_kinds = (outs-Pass, outs-Break, outs-Continue, outs-Return, outs-Raise, outs-Assert, outs-Del, outs-Assign, outs-Augment, outs-Bare, outs-If, outs-While, outs-For, outs-Try)
