-- What expressions and statements are, by their kinds.
use Rattle.py_syntax.specs.declared.expr.ExprKind.TheVariants.{outs-NoneLit, outs-BoolLit, outs-IntLit, outs-StrLit, outs-Name, outs-ListLit, outs-TupleLit, outs-DictLit, outs-Attr, outs-Index, outs-Slice, outs-Call, outs-Method, outs-Super, outs-Unary, outs-Not, outs-Binary, outs-And, outs-Or, outs-Compare, outs-Cond}
use Rattle.py_syntax.specs.declared.stmt.StmtKind.TheVariants.{outs-Pass, outs-Break, outs-Continue, outs-Return, outs-Raise, outs-Assert, outs-Del, outs-Assign, outs-Augment, outs-Bare, outs-If, outs-While, outs-For, outs-Try}

pub ruleset expression_kinds = (outs-NoneLit, outs-BoolLit, outs-IntLit, outs-StrLit, outs-Name, outs-ListLit, outs-TupleLit, outs-DictLit, outs-Attr, outs-Index, outs-Slice, outs-Call, outs-Method, outs-Super, outs-Unary, outs-Not, outs-Binary, outs-And, outs-Or, outs-Compare, outs-Cond)

pub ruleset statement_kinds = (outs-Pass, outs-Break, outs-Continue, outs-Return, outs-Raise, outs-Assert, outs-Del, outs-Assign, outs-Augment, outs-Bare, outs-If, outs-While, outs-For, outs-Try)
