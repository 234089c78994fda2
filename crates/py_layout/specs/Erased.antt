-- Statements without their lines and node numbers: two are the same up to these where this is the same.
use Rattle.std.specs.Prelude.{map, option_map}
use Rattle.py_syntax.specs.declared.stmt.Clause.{Clause, Clause-F, fold-Clause, roll-Clause}
use Rattle.py_syntax.specs.declared.stmt.Stmt.{Stmt, Stmt-F, fold-Stmt}
use Rattle.py_syntax.specs.declared.stmt.StmtKind.{StmtKind, StmtKind-F, fold-StmtKind}
use Rattle.py_syntax.specs.declared.stmt.StmtKind.TheVariants as s
use Rattle.py_layout.specs.Small.{fresh, fresh_target}

-- Each expression is as it is read from its own tokens on line 0.
abbrev pub erased_by : StmtKind-F StmtKind Clause Stmt → StmtKind
erased_by StmtKind-F.Pass = s.Pass
erased_by StmtKind-F.Break = s.Break
erased_by StmtKind-F.Continue = s.Continue
erased_by (StmtKind-F.Return x) = s.Return (option_map (fresh 0) x)
erased_by (StmtKind-F.Raise x) = s.Raise (option_map (fresh 0) x)
erased_by (StmtKind-F.Assert test message) = s.Assert (fresh 0 test) (option_map (fresh 0) message)
erased_by (StmtKind-F.Del of at) = s.Del (fresh 0 of) (fresh 0 at)
erased_by (StmtKind-F.Assign targets is_tuple type x) = s.Assign (map (fresh_target 0) targets) is_tuple type (fresh 0 x)
erased_by (StmtKind-F.Augment target op x) = s.Augment (fresh_target 0 target) op (fresh 0 x)
erased_by (StmtKind-F.Bare x) = s.Bare (fresh 0 x)
erased_by (StmtKind-F.If arms other) = s.If (map (λ arm. (fresh 0 arm.0, arm.1)) arms) other
erased_by (StmtKind-F.While test body) = s.While (fresh 0 test) body
erased_by (StmtKind-F.For names is_tuple walked body) = s.For names is_tuple (fresh 0 walked) body
erased_by (StmtKind-F.Try body clauses other last) = s.Try body clauses other last

abbrev pub erased_clause_by : Clause-F StmtKind Clause Stmt → Clause
erased_clause_by clause = roll-Clause (record { node = record { 0 = 0 }; line = 0; classes = clause.classes; name = clause.name; body = clause.body })

abbrev pub erased_stmt_by : Stmt-F StmtKind Clause Stmt → Stmt
erased_stmt_by stmt = record { node = record { 0 = 0 }; line = 0; kind = stmt.kind }

unfoldable pub erased : Stmt → Stmt
erased = fold-Stmt StmtKind Clause Stmt erased_by erased_clause_by erased_stmt_by

unfoldable pub erased_clause : Clause → Clause
erased_clause = fold-Clause StmtKind Clause Stmt erased_by erased_clause_by erased_stmt_by

unfoldable pub erased_kind : StmtKind → StmtKind
erased_kind = fold-StmtKind StmtKind Clause Stmt erased_by erased_clause_by erased_stmt_by
