-- The lines of a test, from the statements that its steps are.
use Rattle.std.specs.Prelude.{ℕ, ◌+◌, List, [], ◌∷◌, ◌++◌, Option, Some, None}
use Rattle.pyn_base.specs.declared.class.ClassId.{ClassId}
use Rattle.py_language.specs.TreesPlaces.{Listed}
use Rattle.py_syntax.specs.declared.stmt.Clause.{Clause}
use Rattle.py_syntax.specs.declared.stmt.Stmt.{Stmt}
use Rattle.py_syntax.specs.declared.stmt.StmtKind.{StmtKind, StmtKind-F, out-StmtKind}
use Rattle.py_plain.specs.Program.{Program}
use Rattle.py_printing.specs.Expressions.{expr_tokens}
use Rattle.py_layout.specs.Rows.{Rows, row, rows_of, indent}
use Rattle.py_annotation_layout.specs.Annotations.{annotation_tokens}
use Rattle.suite_model.specs.declared.suite.Assert.{Assert}
use Rattle.suite_text.specs.SuiteText.{asserts_after, asserts_later, raised_class, assertion_rows, with_row}

-- what an assignment assigns, alone
abbrev pub value_by : ℕ → StmtKind-F StmtKind Clause Stmt → Rows
value_by column (StmtKind-F.Assign targets is_tuple type x) = row column (expr_tokens Listed x) ∷ []
value_by column _ = []

abbrev pub value_rows : ℕ → StmtKind → Rows
value_rows column kind = value_by column (out-StmtKind kind)

module _ (program : Program) where
  -- a step, in a block if it has to raise
  abbrev pub last_rows : Option ClassId → Stmt → Rows
  last_rows None stmt = rows_of annotation_tokens stmt indent
  last_rows (Some class) stmt = with_row program class ∷ value_rows (indent + indent) stmt.kind

  -- the steps from step k on, each with the assertions after it
  abbrev pub body_rows : Option (ℕ × ClassId) → ℕ → List Assert → List Stmt → Rows
  body_rows raises k asserts [] = []
  body_rows raises k asserts (stmt ∷ more) =
      last_rows (raised_class raises more) stmt ++ (assertion_rows program (asserts_after k asserts) ++ body_rows raises (k + 1) (asserts_later k asserts) more)
