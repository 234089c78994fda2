-- What the rules ask of a tree, one level at a time.
use Rattle.std.specs.Prelude.{◌≡◌, ℕ, Bool, List}
use Rattle.py_syntax.specs.declared.expr.Args.{Args, map-Args, out-Args}
use Rattle.py_syntax.specs.declared.expr.Expr.{Expr}
use Rattle.py_syntax.specs.declared.expr.ExprKind.{ExprKind, map-ExprKind, out-ExprKind}
use Rattle.py_syntax.specs.declared.module.Item.{Item}
use Rattle.py_syntax.specs.declared.stmt.Annotation.{Annotation, map-Annotation, out-Annotation}
use Rattle.py_syntax.specs.declared.stmt.Clause.{Clause, map-Clause, out-Clause}
use Rattle.py_syntax.specs.declared.stmt.Stmt.{Stmt}
use Rattle.py_syntax.specs.declared.stmt.StmtKind.{StmtKind, map-StmtKind, out-StmtKind}
use Rattle.py_meaning.specs.Methods.{Names}
use Rattle.py_scopes.specs.Annotations.{Spellings, names_by, names_in, unquoted_by, unquoted_in, Where, Checked, checked_by, faulty, none_of, quoted_of}
use Rattle.py_scopes.specs.Constants.{Judge, constant_by, constant, constant_kind, constant_args, display_by, display_in_args, has_display, display_in_kind, display_of_args}
use Rattle.py_scopes.specs.Uses.{OnLine, Part, kind_uses, args_uses, uses_of, number_of, uses_of_kind, uses_of_args, Around, Within, stmt_kind_uses, clause_uses, uses_in, uses_in_clause, uses_in_kind}

-- ---- uses

abbrev pub UsesByExpr : Type 0
UsesByExpr = (x : Expr) → uses_of x ≡ uses_of_kind x.kind x.line

abbrev pub NumberByExpr : Type 0
NumberByExpr = (x : Expr) → number_of x ≡ x.node.0

abbrev pub part_of : Expr → Part
part_of x = record { number = number_of x; uses = uses_of x }

abbrev pub UsesByKind : Type 0
UsesByKind = (kind : ExprKind) (line : ℕ) → uses_of_kind kind line ≡ kind_uses (map-ExprKind ExprKind Args Expr OnLine OnLine Part uses_of_kind uses_of_args part_of (out-ExprKind kind)) line

abbrev pub UsesByArgs : Type 0
UsesByArgs = (args : Args) (line : ℕ) → uses_of_args args line ≡ args_uses (map-Args ExprKind Args Expr OnLine OnLine Part uses_of_kind uses_of_args part_of (out-Args args)) line

abbrev pub UsesByStmt : Type 0
UsesByStmt = (stmt : Stmt) (around : Around) → uses_in stmt around ≡ uses_in_kind stmt.kind stmt.line around

abbrev pub UsesByStmtKind : Type 0
UsesByStmtKind = (kind : StmtKind) (line : ℕ) (around : Around) →
    uses_in_kind kind line around ≡ stmt_kind_uses (map-StmtKind StmtKind Clause Stmt (ℕ → Within) Within Within uses_in_kind uses_in_clause uses_in (out-StmtKind kind)) line around

abbrev pub UsesByClause : Type 0
UsesByClause = (clause : Clause) (around : Around) →
    uses_in_clause clause around ≡ clause_uses (map-Clause StmtKind Clause Stmt (ℕ → Within) Within Within uses_in_kind uses_in_clause uses_in (out-Clause clause)) around

-- ---- constants and displays

abbrev pub ConstantByExpr : Type 0
ConstantByExpr = (x : Expr) (names : Names ℕ) → constant x names ≡ constant_kind x.kind names

abbrev pub ConstantByKind : Type 0
ConstantByKind = (kind : ExprKind) (names : Names ℕ) →
    constant_kind kind names ≡ constant_by (map-ExprKind ExprKind Args Expr Judge (Unit {0}) Judge constant_kind constant_args constant (out-ExprKind kind)) names

abbrev pub DisplayByExpr : Type 0
DisplayByExpr = (x : Expr) → has_display x ≡ display_in_kind x.kind

abbrev pub DisplayByKind : Type 0
DisplayByKind = (kind : ExprKind) → display_in_kind kind ≡ display_by (map-ExprKind ExprKind Args Expr Bool Bool Bool display_in_kind display_of_args has_display (out-ExprKind kind))

abbrev pub DisplayByArgs : Type 0
DisplayByArgs = (args : Args) → display_of_args args ≡ display_in_args (map-Args ExprKind Args Expr Bool Bool Bool display_in_kind display_of_args has_display (out-Args args))

-- ---- annotations

abbrev pub NamesByPart : Type 0
NamesByPart = (annotation : Annotation) → names_in annotation ≡ names_by (map-Annotation Annotation Spellings names_in (out-Annotation annotation))

abbrev pub UnquotedByPart : Type 0
UnquotedByPart = (annotation : Annotation) → unquoted_in annotation ≡ unquoted_by (map-Annotation Annotation Spellings unquoted_in (out-Annotation annotation))

module _ (items : List Item) (before : List Item) where
  abbrev pub checked_part : Annotation → Checked
  checked_part annotation = record { is_none = none_of items before annotation; is_quoted = quoted_of items before annotation; is_faulty = faulty items before annotation }

  abbrev pub checked_again : Annotation → Checked
  checked_again annotation = checked_by items before (map-Annotation Annotation Checked checked_part (out-Annotation annotation))

abbrev pub FaultyByPart : Type 0
FaultyByPart = (items : List Item) (before : List Item) (annotation : Annotation) (at : Where) → faulty items before annotation at ≡ (checked_again items before annotation).is_faulty at

abbrev pub NoneByPart : Type 0
NoneByPart = (items : List Item) (before : List Item) (annotation : Annotation) → none_of items before annotation ≡ (checked_again items before annotation).is_none

abbrev pub QuotedByPart : Type 0
QuotedByPart = (items : List Item) (before : List Item) (annotation : Annotation) → quoted_of items before annotation ≡ (checked_again items before annotation).is_quoted
