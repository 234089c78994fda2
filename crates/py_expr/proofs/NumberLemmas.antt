-- The numbers of a shape's nodes, by the kind of node.
use Rattle.py_language.proofs.TreesNumbering.{numbered-Atom, numbered-ListLit, numbered-TupleLit, numbered-DictLit, numbered-Attr, numbered-Index, numbered-Slice, numbered-Call, numbered-Method, numbered-Super, numbered-Unary, numbered-Not, numbered-Binary, numbered-And, numbered-Or, numbered-Compare, numbered-Cond}

pub ruleset numbers = (numbered-Atom, numbered-ListLit, numbered-TupleLit, numbered-DictLit, numbered-Attr, numbered-Index, numbered-Slice, numbered-Call, numbered-Method, numbered-Super, numbered-Unary, numbered-Not, numbered-Binary, numbered-And, numbered-Or, numbered-Compare, numbered-Cond)
