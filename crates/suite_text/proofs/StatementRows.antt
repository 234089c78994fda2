-- The line of each form of statement of a test.
use Rattle.std.proofs.Common.{◌≡◌, ◌∙◌, ap, ℕ, false, List, [], ◌∷◌, None, append-nil}
use Rattle.py_language.specs.TreesPlaces.{Listed, Conditional}
use Rattle.py_language.specs.declared.token.Token.TheVariants as t
use Rattle.py_language.specs.declared.token.Keyword.TheVariants as k
use Rattle.py_language.specs.declared.token.Mark.TheVariants as m
use Rattle.py_syntax.specs.declared.expr.Expr.{Expr}
use Rattle.py_syntax.specs.declared.stmt.Stmt.{Stmt}
use Rattle.py_syntax.specs.declared.stmt.StmtKind.{StmtKind}
use Rattle.py_syntax.specs.declared.stmt.StmtKind.TheVariants as s
use Rattle.py_syntax.specs.declared.stmt.StmtKind.TheVariants.{outs-Assert, outs-Assign, outs-Bare}
use Rattle.py_syntax.specs.declared.stmt.Target.TheVariants as target
use Rattle.py_plain.specs.Program.{Program}
use Rattle.py_printing.specs.Expressions.{expr_tokens}
use Rattle.py_layout.specs.Rows.{row, rows_of, kind_rows}
use Rattle.py_layout.proofs.RowLevels.{parts_of_kind, by_statement, by_kind}
use Rattle.py_annotation_layout.specs.Annotations.{annotation_tokens}
use Rattle.suite_model.specs.declared.suite.Assert.{Assert}
use Rattle.suite_model.specs.declared.test.Step.{Step}
use Rattle.suite_model.specs.Assertions.{assertion, condition, subject_read}
use Rattle.suite_model.specs.Statements.{variable, right_of, statement_of}

abbrev pub stmt : StmtKind → Stmt
stmt kind = record { node = record { 0 = 0 }; line = 1; kind = kind }

-- an expression alone
pub bare_row : (x : Expr) (column : ℕ) → rows_of annotation_tokens (stmt (s.Bare x)) column ≡ row column (expr_tokens Listed x) ∷ []
bare_row x column =
    by_statement annotation_tokens (stmt (s.Bare x)) column ∙ by_kind annotation_tokens (s.Bare x) column
    ∙ ap (λ f. kind_rows annotation_tokens (parts_of_kind annotation_tokens f) column) (outs-Bare x)

-- `NAME = VALUE`
pub assign_row : (name : List ℕ) (x : Expr) (column : ℕ)
    → rows_of annotation_tokens (stmt (s.Assign (target.Name name ∷ []) false None x)) column ≡ row column (t.Name name ∷ t.Mark m.Equal ∷ expr_tokens Listed x) ∷ []
assign_row name x column =
    let targets = target.Name name ∷ [] in
    by_statement annotation_tokens (stmt (s.Assign targets false None x)) column ∙ by_kind annotation_tokens (s.Assign targets false None x) column
    ∙ ap (λ f. kind_rows annotation_tokens (parts_of_kind annotation_tokens f) column) (outs-Assign targets false None x)

-- `assert CONDITION`
pub assert_row : (x : Expr) (column : ℕ) → rows_of annotation_tokens (stmt (s.Assert x None)) column ≡ row column (t.Keyword k.Assert ∷ expr_tokens Conditional x) ∷ []
assert_row x column =
    by_statement annotation_tokens (stmt (s.Assert x None)) column ∙ by_kind annotation_tokens (s.Assert x None) column
    ∙ ap (λ f. kind_rows annotation_tokens (parts_of_kind annotation_tokens f) column) (outs-Assert x None)
    ∙ ap (λ ts. row column (t.Keyword k.Assert ∷ ts) ∷ []) (append-nil (expr_tokens Conditional x))

-- `var_K = RIGHT`
pub step_row : (program : Program) (n : ℕ) (step : Step) (column : ℕ)
    → rows_of annotation_tokens (statement_of program n step) column ≡ row column (t.Name (variable n) ∷ t.Mark m.Equal ∷ expr_tokens Listed (right_of program step)) ∷ []
step_row program n step column = assign_row (variable n) (right_of program step) column

pub assertion_row : (program : Program) (a : Assert) (column : ℕ)
    → rows_of annotation_tokens (assertion program a) column ≡ row column (t.Keyword k.Assert ∷ expr_tokens Conditional (condition program (subject_read a.subject) a.wants)) ∷ []
assertion_row program a column = assert_row (condition program (subject_read a.subject) a.wants) column
