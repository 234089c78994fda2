-- The tests of a suite, from the front.
use Rattle.std.proofs.Common.{◌≡◌, ◌∙◌, sym, ap, ap₂, refl, ℕ, ◌+◌, List, [], ◌∷◌, ◌++◌, ◌<◌, length, drop, get_or, append_assoc, add-one}
use Rattle.std.proofs.Math.Seq.{drop-cons}
use Rattle.std.specs.Prelude.{Result, Ok, Err, OnOk}
use Rattle.py_syntax.specs.declared.stmt.Stmt.{Stmt}
use Rattle.py_plain.specs.Program.{Program}
use Rattle.py_printer.specs.Lines.{lines_text}
use Rattle.module_printer.specs.declared.page.Page.{Page}
use Rattle.module_printer.specs.Modules.{lines_of}
use Rattle.module_printer.specs.Pages.{onto}
use Rattle.suite_model.specs.declared.suite.Assert.{Assert}
use Rattle.suite_model.specs.declared.suite.Suite.{Suite}
use Rattle.suite_model.specs.declared.suite.TestCase.{TestCase}
use Rattle.suite_model.specs.Statements.{statements_of}
use Rattle.suite_text.specs.SuiteText.{case_lines, cases_lines, import_rows, steps_rows, suite_text, test_row}
use Rattle.suite_printer.specs.Bodies.{body_rows}
use Rattle.suite_printer.proofs.BodyRows.{body_is}
use Rattle.suite_printer.proofs.Pages.{lines_append, onto_text}

rest_of : (xs : List TestCase) (i : ℕ) (x : TestCase) → i < length xs → x ≡ get_or xs i x → drop i xs ≡ x ∷ drop (i + 1) xs
rest_of xs i x lt is = rw (drop-cons xs i x lt, ← is, add-one) refl

module _ (program : Program) where
  -- a test, from its header's page and its statements
  pub case_ok : {T E : Type 0} (r : Result T E) (number : ℕ) (x : TestCase) (before middle after : Page) (asserts : List Assert) (stmts : List Stmt)
      → middle ≡ onto (record before { blanks = 2 }) (test_row number ∷ []) → asserts ≡ x.asserts → stmts ≡ statements_of program x.test
      → OnOk r (after ≡ onto middle (body_rows program x.raises 0 asserts stmts)) → OnOk r (after.text ≡ before.text ++ lines_text (case_lines program number x))
  case_ok (Ok v) number x before middle after asserts stmts a b c h =
      let page : Page = record before { blanks = 2 } in
      ap (λ (p : Page). p.text)
      (h ∙ ap (λ p. onto p (body_rows program x.raises 0 asserts stmts)) a ∙ ap (λ xs. onto page (test_row number ∷ body_rows program x.raises 0 xs stmts)) b
      ∙ ap (λ xs. onto page (test_row number ∷ body_rows program x.raises 0 x.asserts xs)) c ∙ ap (λ rows. onto page (test_row number ∷ rows)) (body_is program x.raises 0 x.asserts x.test.steps))
      ∙ onto_text page (test_row number ∷ steps_rows program x.raises 0 x.asserts x.test.steps)
  case_ok (Err v) number x before middle after asserts stmts a b c h = tt

  pub one_case : (xs : List TestCase) (i number : ℕ) (x : TestCase) (whole p q : List ℕ) → i < length xs → x ≡ get_or xs i x
      → whole ≡ p ++ lines_text (cases_lines program number (drop i xs)) → q ≡ p ++ lines_text (case_lines program number x)
      → whole ≡ q ++ lines_text (cases_lines program (number + 1) (drop (i + 1) xs))
  one_case xs i number x whole p q lt is before a =
      let own = case_lines program number x in
      let rest = cases_lines program (number + 1) (drop (i + 1) xs) in
      before ∙ ap (λ ys. p ++ lines_text (cases_lines program number ys)) (rest_of xs i x lt is)
      ∙ ap (λ z. p ++ z) (lines_append own rest) ∙ sym (append_assoc p (lines_text own) (lines_text rest))
      ∙ ap (λ z. z ++ lines_text rest) (sym a)

  -- the import lines, and all tests
  pub suite_ok : (suite : Suite) (start second last : Page) (all : List TestCase) → start ≡ record { text = []; blanks = 0 } → second ≡ onto start (import_rows suite.module) → all ≡ suite.cases
      → last.text ≡ second.text ++ lines_text (cases_lines program 0 all) → last.text ≡ suite_text program suite
  suite_ok suite start second last all a b c d =
      let empty : Page = record { text = []; blanks = 0 } in
      let rows = import_rows suite.module in
      d ∙ ap₂ (λ t xs. t ++ lines_text (cases_lines program 0 xs)) (ap (λ (p : Page). p.text) (b ∙ ap (λ p. onto p rows) a) ∙ onto_text empty rows) c
      ∙ sym (lines_append (lines_of 0 rows) (cases_lines program 0 suite.cases))
