-- The lines of a statement and of a block: each statement at its block's column, and what is inside it four columns further (Language
-- Reference 2.1.8 and chapter 8).
use Rattle.std.specs.Prelude.{ℕ, ◌+◌, List, [], ◌∷◌, ◌++◌, Option, Some, None}
use Rattle.std.specs.List.{flat_map}
use Rattle.py_language.specs.declared.token.Token.{Token}
use Rattle.py_syntax.specs.declared.expr.Expr.{Expr}
use Rattle.py_syntax.specs.declared.stmt.Annotation.{Annotation}
use Rattle.py_syntax.specs.declared.stmt.Clause.{Clause, Clause-F, fold-Clause}
use Rattle.py_syntax.specs.declared.stmt.Stmt.{Stmt, Stmt-F, fold-Stmt}
use Rattle.py_syntax.specs.declared.stmt.StmtKind.{StmtKind, StmtKind-F, fold-StmtKind}
use Rattle.py_grammar.specs.declared.form.Header.{Header}
use Rattle.py_grammar.specs.declared.form.Header.TheVariants as h
use Rattle.py_layout.specs.Headers.{header_tokens}
use Rattle.py_layout.specs.Small.{small_by}

-- a logical line: its column and its tokens
pub record Row : Type 0 where
  pub column : ℕ
  pub tokens : List Token

abbrev pub Rows : Type 0
Rows = List Row

-- the lines of a part of a program, by the column at which it is
abbrev pub Placed : Type 0
Placed = ℕ → Rows

abbrev pub indent : ℕ
indent = 4

abbrev pub row : ℕ → List Token → Row
row column tokens = record { column = column; tokens = tokens }

abbrev pub placed : ℕ → List Placed → Rows
placed column parts = flat_map (λ part. part column) parts

-- by the tokens of annotations
module _ (annotated : Annotation → List Token) where
  -- a header, and its block
  abbrev pub headed : ℕ → Header → List Placed → Rows
  headed column header body = row column (header_tokens annotated header) ∷ placed (column + indent) body

  abbrev pub maybe_headed : ℕ → Header → Option (List Placed) → Rows
  maybe_headed column header None = []
  maybe_headed column header (Some body) = headed column header body

  -- the arms of an `if`, of which the first is made by this
  abbrev pub arms_rows : ℕ → (Expr → Header) → List (Expr × List Placed) → Rows
  arms_rows column make [] = []
  arms_rows column make (arm ∷ arms) = headed column (make arm.0) arm.1 ++ arms_rows column h.Elif arms

  abbrev pub kind_rows : StmtKind-F Placed Placed Placed → Placed
  kind_rows (StmtKind-F.If arms other) column = arms_rows column h.If arms ++ maybe_headed column h.Else other
  kind_rows (StmtKind-F.While test body) column = headed column (h.While test) body
  kind_rows (StmtKind-F.For names is_tuple walked body) column = headed column (h.For names is_tuple walked) body
  kind_rows (StmtKind-F.Try body clauses other last) column =
      headed column h.Try body ++ (placed column clauses ++ (maybe_headed column h.Else other ++ maybe_headed column h.Finally last))
  kind_rows small column = row column (small_by annotated small) ∷ []

  abbrev pub clause_rows : Clause-F Placed Placed Placed → Placed
  clause_rows clause column = headed column (h.Except clause.classes clause.name) clause.body

  abbrev pub stmt_rows : Stmt-F Placed Placed Placed → Placed
  stmt_rows stmt = stmt.kind

  -- the lines of a statement
  unfoldable pub rows_of : Stmt → Placed
  rows_of = fold-Stmt Placed Placed Placed kind_rows clause_rows stmt_rows

  unfoldable pub rows_of_clause : Clause → Placed
  rows_of_clause = fold-Clause Placed Placed Placed kind_rows clause_rows stmt_rows

  unfoldable pub rows_of_kind : StmtKind → Placed
  rows_of_kind = fold-StmtKind Placed Placed Placed kind_rows clause_rows stmt_rows

  abbrev pub block_rows : ℕ → List Stmt → Rows
  block_rows column body = flat_map (λ stmt. rows_of stmt column) body
