-- What the examples are computed by.
use Rattle.py_syntax.specs.declared.expr.Args.{out-roll-Args}
use Rattle.py_syntax.specs.declared.expr.ExprKind.TheVariants.{outs-NoneLit, outs-BoolLit, outs-IntLit, outs-StrLit, outs-Name, outs-ListLit, outs-TupleLit, outs-DictLit, outs-Attr, outs-Call, outs-Method, outs-Unary, outs-Compare}
use Rattle.py_syntax.specs.declared.stmt.StmtKind.TheVariants.{outs-Assign, outs-Assert, outs-Bare, outs-Pass}
use Rattle.suite_file.specs.Folds.{shown_by_level, shown_by_kind}

pub ruleset levels = (shown_by_level, shown_by_kind, out-roll-Args, outs-NoneLit, outs-BoolLit, outs-IntLit, outs-StrLit, outs-Name, outs-ListLit, outs-TupleLit, outs-DictLit, outs-Attr, outs-Call, outs-Method, outs-Unary, outs-Compare, outs-Assign, outs-Assert, outs-Bare, outs-Pass)
