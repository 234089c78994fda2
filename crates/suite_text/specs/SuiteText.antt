-- The text of a suite, which is a pytest file (pytest's manual, "Assertions about expected exceptions"; Language Reference 7.3, 7.11, 8.5 and 8.7).
use Rattle.std.specs.Prelude.{ℕ, ◌+◌, ◌==◌, if◌then◌else◌, List, [], ◌∷◌, ◌++◌, map, Option, Some, None, codes, decimal}
use Rattle.pyn_base.specs.declared.class.ClassId.{ClassId}
use Rattle.py_language.specs.declared.token.Token.TheVariants as t
use Rattle.py_language.specs.declared.token.Keyword.TheVariants as k
use Rattle.py_language.specs.TreesPlaces.{Conditional}
use Rattle.py_syntax.specs.declared.expr.Args.{roll-Args}
use Rattle.py_syntax.specs.declared.expr.Expr.{Expr}
use Rattle.py_syntax.specs.declared.expr.ExprKind.TheVariants as e
use Rattle.py_syntax.specs.declared.stmt.Stmt.{Stmt}
use Rattle.py_syntax.specs.declared.stmt.StmtKind.TheVariants.{Bare}
use Rattle.py_grammar.specs.declared.form.Header.TheVariants as h
use Rattle.py_plain.specs.Program.{Program}
use Rattle.py_printing.specs.Expressions.{expr_tokens}
use Rattle.py_layout.specs.Headers.{colon, header_tokens, lone}
use Rattle.py_layout.specs.Rows.{Row, Rows, row, rows_of, block_rows, indent}
use Rattle.py_printer.specs.Lines.{Line, lines_text}
use Rattle.py_annotation_layout.specs.Annotations.{annotation_tokens}
use Rattle.module_printer.specs.Modules.{lines_of}
use Rattle.suite_model.specs.declared.suite.Assert.{Assert}
use Rattle.suite_model.specs.declared.suite.Suite.{Suite}
use Rattle.suite_model.specs.declared.suite.TestCase.{TestCase}
use Rattle.suite_model.specs.declared.test.Step.{Step}
use Rattle.suite_model.specs.Assertions.{assertion, class_read}
use Rattle.suite_model.specs.Statements.{expression, right_of, statement_of}

-- ---- assertions, which come in the order of the steps that they are after

-- those at the front that are after a step
abbrev pub asserts_after : ℕ → List Assert → List Assert
asserts_after k [] = []
asserts_after k (a ∷ more) = if a.after == k then a ∷ asserts_after k more else []

-- the others
abbrev pub asserts_later : ℕ → List Assert → List Assert
asserts_later k [] = []
asserts_later k (a ∷ more) = if a.after == k then asserts_later k more else a ∷ more

-- ---- the two import lines, and the header of a test

abbrev pub import_rows : List ℕ → Rows
import_rows name =
    row 0 (t.Keyword k.Import ∷ lone (codes "pytest")) ∷ row 0 (t.Keyword k.Import ∷ t.Name name ∷ t.Keyword k.As ∷ lone (codes "module_0")) ∷ []

abbrev pub test_name : ℕ → List ℕ
test_name number = codes "test_case_" ++ decimal number

abbrev pub test_row : ℕ → Row
test_row number = row 0 (header_tokens annotation_tokens (h.Def (test_name number) [] None))

-- a statement that is an expression alone: what has to raise assigns nothing
abbrev pub bare : Expr → Stmt
bare x = record { node = record { 0 = 0 }; line = 1; kind = Bare x }

-- ---- the lines of a test

-- the class that a step before these has to raise: the last step, where the test ends by raising
abbrev pub raised_class : {X : Type 0} → Option (ℕ × ClassId) → List X → Option ClassId
raised_class None more = None
raised_class (Some raises) [] = Some raises.1
raised_class (Some raises) (x ∷ more) = None

module _ (program : Program) where
  -- `pytest.raises(CLASS)`
  abbrev pub raises_call : ClassId → Expr
  raises_call class = expression (e.Method (expression (e.Name (codes "pytest"))) (codes "raises") (roll-Args record { plain = class_read program class ∷ []; named = [] }))

  -- `with pytest.raises(CLASS):`
  abbrev pub with_row : ClassId → Row
  with_row class = row indent ((t.Keyword k.With ∷ expr_tokens Conditional (raises_call class)) ++ colon)

  abbrev pub assertion_rows : List Assert → Rows
  assertion_rows asserts = block_rows annotation_tokens indent (map (assertion program) asserts)

  -- a step, in a block if it has to raise
  abbrev pub step_rows : Option ClassId → ℕ → Step → Rows
  step_rows None k step = rows_of annotation_tokens (statement_of program k step) indent
  step_rows (Some class) k step = with_row class ∷ rows_of annotation_tokens (bare (right_of program step)) (indent + indent)

  -- the steps from step k on, each with the assertions after it
  abbrev pub steps_rows : Option (ℕ × ClassId) → ℕ → List Assert → List Step → Rows
  steps_rows raises k asserts [] = []
  steps_rows raises k asserts (step ∷ more) =
      step_rows (raised_class raises more) k step ++ (assertion_rows (asserts_after k asserts) ++ steps_rows raises (k + 1) (asserts_later k asserts) more)

  -- test K, after two empty lines
  abbrev pub case_lines : ℕ → TestCase → List Line
  case_lines number case = lines_of 2 (test_row number ∷ steps_rows case.raises 0 case.asserts case.test.steps)

  abbrev pub cases_lines : ℕ → List TestCase → List Line
  cases_lines number [] = []
  cases_lines number (case ∷ cases) = case_lines number case ++ cases_lines (number + 1) cases

  abbrev pub suite_lines : Suite → List Line
  suite_lines suite = lines_of 0 (import_rows suite.module) ++ cases_lines 0 suite.cases

  -- the text of a suite of the module
  abbrev pub suite_text : Suite → List ℕ
  suite_text suite = lines_text (suite_lines suite)
