-- Which trees of a file show a suite: each statement has its line, and the form that the suite's has.
use Rattle.std.specs.Prelude.{◌≡◌, ℕ, ◌+◌, true, false, List, [], ◌∷◌, None}
use Rattle.py_plain.specs.Program.{Program}
use Rattle.suite_model.specs.declared.suite.Suite.{Suite}
use Rattle.suite_model.specs.declared.suite.TestCase.{TestCase}
use Rattle.suite_model.specs.Assertions.{assertion, class_read}
use Rattle.suite_model.specs.Statements.{right_of, statement_of}
use Rattle.suite_file.specs.declared.entry.Entry.{Entry}
use Rattle.suite_file.specs.declared.entry.Entry.TheVariants as entry
use Rattle.suite_file.specs.declared.file.FileStmt.{FileStmt}
use Rattle.suite_file.specs.declared.file.FileStmt.TheVariants.{Plain, Raises}
use Rattle.suite_file.specs.declared.file.FileTest.{FileTest}
use Rattle.suite_file.specs.declared.file.SuiteFile.{SuiteFile}
use Rattle.suite_file.specs.Spelled.{class_in, alone_in, spelled_in}
use Rattle.suite_text.specs.SuiteText.{test_name, bare}
use Rattle.suite_back.specs.Written.{entries_at, first_header, header_after}

abbrev pub Never : Type 0
Never = false ≡ true

-- the number of the step after an entry
abbrev pub step_after : ℕ → Entry → ℕ
step_after k (entry.Asserts a) = k
step_after k _ = k + 1

module _ (program : Program) where
  -- an entry that is step k, or comes before it
  abbrev pub ShowsEntry : ℕ → Entry → FileStmt → Type 0
  ShowsEntry k (entry.Does line step) (Plain stmt) = (stmt.line ≡ line) × (spelled_in stmt ≡ spelled_in (statement_of program k step))
  ShowsEntry k (entry.Asserts a) (Plain stmt) = (stmt.line ≡ a.line) × (spelled_in stmt ≡ spelled_in (assertion program a))
  ShowsEntry k (entry.Raises block class line step) (Raises at named stmt more) =
      (at ≡ block) × (class_in named ≡ class_in (class_read program class)) × (stmt.line ≡ line) × (alone_in stmt ≡ alone_in (bare (right_of program step))) × (more ≡ None)
  ShowsEntry k _ _ = Never

  abbrev pub ShowsEntries : ℕ → List Entry → List FileStmt → Type 0
  ShowsEntries k [] [] = true ≡ true
  ShowsEntries k (entry ∷ entries) (stmt ∷ stmts) = ShowsEntry k entry stmt × ShowsEntries (step_after k entry) entries stmts
  ShowsEntries k _ _ = Never

  -- test number so much, with its header on this line
  pub record ShowsCase (number line : ℕ) (case : TestCase) (test : FileTest) : Type 0 where
    pub name_is : test.name ≡ test_name number
    pub line_is : test.line ≡ line
    pub bare_is : test.is_bare ≡ true
    pub body_is : ShowsEntries 0 (entries_at line case) test.body

  abbrev pub ShowsCases : ℕ → ℕ → List TestCase → List FileTest → Type 0
  ShowsCases number line [] [] = true ≡ true
  ShowsCases number line (case ∷ cases) (test ∷ tests) = ShowsCase number line case test × ShowsCases (number + 1) (header_after line case) cases tests
  ShowsCases number line _ _ = Never

  pub record Shows (suite : Suite) (file : SuiteFile) : Type 0 where
    pub module_is : file.module ≡ suite.module
    pub tests_are : ShowsCases 0 first_header suite.cases file.tests
    pub strays_are : file.strays ≡ []
