-- The lines of a test's steps and assertions, from the front.
use Rattle.std.proofs.Common.{◌≡◌, ◌∙◌, sym, ap, ap₂, refl, ℕ, ◌+◌, true, false, List, [], ◌∷◌, ◌++◌, Option, Some, None, append-nil}
use Rattle.std.specs.Prelude.{◌==◌, if◌then◌else◌}
use Rattle.pyn_base.specs.declared.class.ClassId.{ClassId}
use Rattle.py_syntax.specs.declared.expr.Expr.{Expr}
use Rattle.py_syntax.specs.declared.stmt.Stmt.{Stmt}
use Rattle.py_syntax.specs.declared.stmt.StmtKind.TheVariants as s
use Rattle.py_syntax.specs.declared.stmt.StmtKind.TheVariants.{outs-Assign}
use Rattle.py_syntax.specs.declared.stmt.Target.TheVariants as target
use Rattle.py_plain.specs.Program.{Program}
use Rattle.py_layout.specs.Rows.{indent, rows_of}
use Rattle.py_annotation_layout.specs.Annotations.{annotation_tokens}
use Rattle.module_printer.specs.declared.page.Page.{Page}
use Rattle.module_printer.specs.Pages.{onto}
use Rattle.suite_model.specs.declared.suite.Assert.{Assert}
use Rattle.suite_model.specs.declared.test.Step.{Step}
use Rattle.suite_model.specs.Assertions.{assertion}
use Rattle.suite_model.specs.Statements.{variable, right_of, statement_of, statements_from}
use Rattle.suite_text.specs.SuiteText.{asserts_after, asserts_later, raised_class, bare, assertion_rows, with_row, step_rows, steps_rows}
use Rattle.suite_text.proofs.StatementRows.{bare_row}
use Rattle.suite_printer.specs.Bodies.{value_by, value_rows, last_rows, body_rows}
use Rattle.suite_printer.proofs.Pages.{onto_append}

-- ---- the lines of statements are those of their steps

value_is : (k : ℕ) (x : Expr) (column : ℕ) → value_rows column (s.Assign (target.Name (variable k) ∷ []) false None x) ≡ rows_of annotation_tokens (bare x) column
value_is k x column = ap (value_by column) (outs-Assign (target.Name (variable k) ∷ []) false None x) ∙ sym (bare_row x column)

module _ (program : Program) where
  step_is : (class : Option ClassId) (k : ℕ) (step : Step) → last_rows program class (statement_of program k step) ≡ step_rows program class k step
  step_is None k step = refl
  step_is (Some class) k step = ap (λ z. with_row program class ∷ z) (value_is k (right_of program step) (indent + indent))

  raised_is : (raises : Option (ℕ × ClassId)) (k : ℕ) (more : List Step) → raised_class raises (statements_from program k more) ≡ raised_class raises more
  raised_is None k more = refl
  raised_is (Some raises) k [] = refl
  raised_is (Some raises) k (step ∷ more) = refl

  pub body_is : (raises : Option (ℕ × ClassId)) (k : ℕ) (asserts : List Assert) (steps : List Step)
      → body_rows program raises k asserts (statements_from program k steps) ≡ steps_rows program raises k asserts steps
  body_is raises k asserts [] = refl
  body_is raises k asserts (step ∷ more) =
      ap₂ (λ a b. a ++ (assertion_rows program (asserts_after k asserts) ++ b))
      (ap (λ class. last_rows program class (statement_of program k step)) (raised_is raises (k + 1) more) ∙ step_is (raised_class raises more) k step)
      (body_is raises (k + 1) (asserts_later k asserts) more)

  -- ---- one more assertion, and the last one

  one_row : (p : Page) (x : Assert) (more : List Assert) → onto p (assertion_rows program (x ∷ more)) ≡ onto (onto p (assertion_rows program (x ∷ []))) (assertion_rows program more)
  one_row p x more =
      let own = rows_of annotation_tokens (assertion program x) indent in
      onto_append p own (assertion_rows program more) ∙ ap (λ rows. onto (onto p rows) (assertion_rows program more)) (sym (append-nil own))

  pub asserted_is : (k : ℕ) (x : Assert) (more : List Assert) → (x.after == k) ≡ true → asserts_after k (x ∷ more) ≡ x ∷ asserts_after k more
  asserted_is k x more e = ap (λ v. if v then x ∷ asserts_after k more else []) e

  pub later_is : (k : ℕ) (x : Assert) (more : List Assert) → (x.after == k) ≡ true → asserts_later k (x ∷ more) ≡ asserts_later k more
  later_is k x more e = ap (λ v. if v then asserts_later k more else x ∷ more) e

  pub one_assertion : (k : ℕ) (x : Assert) (left more : List Assert) (whole p q : Page) → left ≡ x ∷ more → (x.after == k) ≡ true
      → whole ≡ onto p (assertion_rows program (asserts_after k left)) → q ≡ onto p (assertion_rows program (x ∷ [])) → whole ≡ onto q (assertion_rows program (asserts_after k more))
  one_assertion k x left more whole p q is e before a =
      before ∙ ap (λ xs. onto p (assertion_rows program (asserts_after k xs))) is ∙ ap (λ xs. onto p (assertion_rows program xs)) (asserted_is k x more e)
      ∙ one_row p x (asserts_after k more) ∙ ap (λ z. onto z (assertion_rows program (asserts_after k more))) (sym a)

  -- ---- one more step

  module _ (raises : Option (ℕ × ClassId)) where
    pub one_step : (k next : ℕ) (stmt : Stmt) (left more : List Stmt) (asserts others : List Assert) (whole p q r : Page) → left ≡ stmt ∷ more
        → whole ≡ onto p (body_rows program raises k asserts left) → q ≡ onto p (last_rows program (raised_class raises more) stmt)
        → r ≡ onto q (assertion_rows program (asserts_after k asserts)) → others ≡ asserts_later k asserts → next ≡ k + 1 → whole ≡ onto r (body_rows program raises next others more)
    one_step k next stmt left more asserts others whole p q r is before a b c d =
        let own = last_rows program (raised_class raises more) stmt in
        let checks = assertion_rows program (asserts_after k asserts) in
        let rest = body_rows program raises (k + 1) (asserts_later k asserts) more in
        before ∙ ap (λ xs. onto p (body_rows program raises k asserts xs)) is
        ∙ onto_append p own (checks ++ rest) ∙ ap (λ z. onto z (checks ++ rest)) (sym a)
        ∙ onto_append q checks rest ∙ ap (λ z. onto z rest) (sym b)
        ∙ ap₂ (λ n xs. onto r (body_rows program raises n xs more)) (sym d) (sym c)
