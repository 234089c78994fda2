-- The lines of the parts of statements, in the order in which they are written.
use Rattle.std.specs.Prelude.{ℕ, ◌+◌, Bool, true, false, List, [], ◌∷◌, ◌++◌, Option, Some, None}
use Rattle.py_language.specs.declared.token.Token.TheVariants as t
use Rattle.py_language.specs.declared.token.Keyword.{Keyword}
use Rattle.py_language.specs.declared.token.Keyword.TheVariants as k
use Rattle.py_language.specs.TreesPlaces.{Conditional}
use Rattle.py_syntax.specs.declared.expr.Expr.{Expr}
use Rattle.py_syntax.specs.declared.stmt.Clause.{Clause}
use Rattle.py_syntax.specs.declared.stmt.Stmt.{Stmt}
use Rattle.py_syntax.specs.declared.stmt.StmtKind.{StmtKind, StmtKind-F, out-StmtKind}
use Rattle.py_printing.specs.Expressions.{expr_tokens}
use Rattle.py_layout.specs.Headers.{colon}
use Rattle.py_layout.specs.Rows.{Rows, row, indent, block_rows}
use Rattle.py_annotation_layout.specs.Annotations.{annotation_tokens}

-- a block that is deeper than the column
abbrev pub deeper : ℕ → List Stmt → Rows
deeper column body = block_rows annotation_tokens (column + indent) body

-- a keyword with a test, and its block
abbrev pub tested_rows : ℕ → Keyword → Expr → List Stmt → Rows
tested_rows column keyword test body = row column ((t.Keyword keyword ∷ expr_tokens Conditional test) ++ colon) ∷ deeper column body

-- a keyword alone, and its block
abbrev pub word_rows : ℕ → Keyword → List Stmt → Rows
word_rows column keyword body = row column ((t.Keyword keyword ∷ []) ++ colon) ∷ deeper column body

abbrev pub maybe_rows : ℕ → Keyword → Option (List Stmt) → Rows
maybe_rows column keyword None = []
maybe_rows column keyword (Some body) = word_rows column keyword body

-- arms, of which the first has this keyword
abbrev pub arms_by : ℕ → Keyword → List (Expr × List Stmt) → Rows
arms_by column keyword [] = []
arms_by column keyword (arm ∷ arms) = tested_rows column keyword arm.0 arm.1 ++ arms_by column k.Elif arms

abbrev pub if_node : StmtKind-F StmtKind Clause Stmt → Bool
if_node (StmtKind-F.If arms other) = true
if_node _ = false

abbrev pub is_if : StmtKind → Bool
is_if kind = if_node (out-StmtKind kind)
