-- The names that statements bind, one level at a time.
use Rattle.std.specs.Prelude.{◌≡◌, ◌++◌, map}
use Rattle.py_syntax.specs.declared.stmt.Clause.{Clause, out-Clause}
use Rattle.py_syntax.specs.declared.stmt.Stmt.{Stmt}
use Rattle.py_syntax.specs.declared.stmt.StmtKind.{StmtKind, StmtKind-F, map-StmtKind, out-StmtKind}
use Rattle.py_names.specs.Bound.{Spellings, bound_by, joined, name_or_none, names_bound, clause_names, kind_names}

-- a statement with what its parts bind in their places
abbrev pub parts_bound : StmtKind-F StmtKind Clause Stmt → StmtKind-F Spellings Spellings Spellings
parts_bound = map-StmtKind StmtKind Clause Stmt Spellings Spellings Spellings kind_names clause_names names_bound

abbrev pub ByStatement : Type 0
ByStatement = (stmt : Stmt) → names_bound stmt ≡ bound_by (parts_bound (out-StmtKind stmt.kind))

abbrev pub ByClause : Type 0
ByClause = (clause : Clause) → clause_names clause ≡ name_or_none (out-Clause clause).name ++ joined (map names_bound (out-Clause clause).body)
