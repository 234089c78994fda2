-- An assertion is read as what it asks of its subject.
use Rattle.std.proofs.Common.{None, Some, [], ap, arith, refl, sym, true, ℕ, ◌^◌, ◌∙◌, ◌∷◌, ◌≡◌, ◌≤◌}
use Rattle.std.specs.Prelude.{codes, if◌then◌else◌, nat_lt}
use Rattle.std.specs.Option.{option_map}
use Rattle.std.proofs.lemmas.Bool.Decides.{nat_tests}
use Rattle.pyn_base.specs.declared.class.ClassId.{ClassId}
use Rattle.py_syntax.specs.declared.expr.Args.{out-Args, out-roll-Args, roll-Args}
use Rattle.py_syntax.specs.declared.expr.Expr.{Expr}
use Rattle.py_syntax.specs.declared.expr.ExprKind.{ExprKind-F}
use Rattle.py_syntax.specs.declared.expr.ExprKind.TheVariants as e
use Rattle.py_syntax.specs.declared.expr.ExprKind.TheVariants.{outs-Attr, outs-Call, outs-Compare, outs-Name}
use Rattle.py_syntax.specs.declared.operator.CmpOp.{CmpOp}
use Rattle.py_syntax.specs.declared.operator.CmpOp.TheVariants.{Eq, Same}
use Rattle.py_syntax.specs.declared.stmt.StmtKind.TheVariants.{outs-Assert}
use Rattle.py_plain.specs.Nodes.{kind_of_expr}
use Rattle.py_plain.specs.Program.{Program}
use Rattle.suite_model.specs.declared.suite.Assert.{Assert}
use Rattle.suite_model.specs.declared.suite.Subject.{Subject}
use Rattle.suite_model.specs.declared.suite.Subject.TheVariants.{Attr, Whole}
use Rattle.suite_model.specs.declared.suite.Wants.{Wants}
use Rattle.suite_model.specs.declared.suite.Wants.TheVariants as wants
use Rattle.suite_model.specs.declared.test.Primitive.{Primitive}
use Rattle.suite_model.specs.declared.test.Primitive.TheVariants as prim
use Rattle.suite_model.specs.Assertions.{assertion, class_read, condition, display, subject_read}
use Rattle.suite_model.specs.Statements.{expression, literal, variable, variable_read}
use Rattle.suite_file.specs.declared.spelled.Asked.{Asked}
use Rattle.suite_file.specs.declared.spelled.Asked.TheVariants as asked
use Rattle.suite_file.specs.declared.spelled.Spelled.TheVariants as spelled
use Rattle.suite_file.specs.SuiteOf.{is_subject_bound, wanted}
use Rattle.suite_file.specs.Spelled.{asked_by, class_in, compared_with, condition_by, is_isinstance, kind_asked, literal_by, single, spelled_by, spelled_in, subject_by, variable_by, variable_in, ◌>>=◌}
use Rattle.name_laws.specs.Laws.{NamesAreFound}
use Rattle.suite_text.specs.Printable.{deepest_display, display_depth, is_bound_subject, is_identifier, is_singleton, is_there, is_variable, is_wanted}
use Rattle.suite_back.proofs.Classes.{class_found, naming, naming_read}
use Rattle.suite_back.proofs.Displays.{display_read}
use Rattle.suite_back.proofs.Steps.{literal_read}
use Rattle.suite_back.proofs.Truths.{after_found, and_both}
use Rattle.suite_back.proofs.Variables.{bound_back}

-- ---- what it is about, where so many variables are bound

pub subject_bound : (bound : ℕ) (subject : Subject) → is_bound_subject bound subject ≡ true → is_subject_bound bound subject ≡ true
subject_bound bound (Whole k) h = h
subject_bound bound (Attr k name) h = (and_both (nat_lt k bound) (is_identifier name) h).0

subject_back : (bound : ℕ) (subject : Subject) → is_bound_subject bound subject ≡ true → bound ≤ 2 ^ 31 → subject_by (kind_of_expr (subject_read subject)) ≡ Some subject
subject_back bound (Whole k) h le =
    let name = variable k in
    let read : variable_by (ExprKind-F.Name name) ≡ Some k = sym (ap variable_by (outs-Name name)) ∙ bound_back bound k h le in
    ap subject_by (outs-Name name) ∙ ap (option_map Whole) read
subject_back bound (Attr k name) h le =
    ap subject_by (outs-Attr (variable_read k) name)
    ∙ after_found (variable_in (variable_read k)) (λ k. Some (Attr k name)) k _ (bound_back bound k (and_both (nat_lt k bound) (is_identifier name) h).0 le) refl

-- ---- what is asked

single_read : (p : Primitive) → is_singleton p ≡ true → single p ≡ Some (asked.Is p)
single_read prim.None h = refl
single_read (prim.Bool b) h = refl
single_read (prim.Int n) h = absurd (cc)
single_read (prim.Str text) h = absurd (cc)

comparison_read : (bound : ℕ) (subject : Subject) (op : CmpOp) (other : Expr) (what : Asked) → is_bound_subject bound subject ≡ true → bound ≤ 2 ^ 31 → asked_by op other ≡ Some what
    → condition_by (kind_of_expr (expression (e.Compare (subject_read subject) ((op, other) ∷ [])))) ≡ Some (spelled.Asserts subject what)
comparison_read bound subject op other what h le is =
    ap condition_by (outs-Compare (subject_read subject) ((op, other) ∷ []))
    ∙ after_found (subject_by (kind_of_expr (subject_read subject))) (λ about. compared_with ((op, other) ∷ []) >>= λ what. Some (spelled.Asserts about what)) subject _ (subject_back bound subject h le)
    (after_found (asked_by op other) (λ what. Some (spelled.Asserts subject what)) what _ is refl)

module _ (program : Program) where
  -- how it is asked
  abbrev pub asking : Wants → Asked
  asking (wants.Is p) = asked.Is p
  asking (wants.Equals shown) = asked.Equals shown
  asking (wants.Kind class) = asked.Kind (naming program class)

  kind_read : (bound : ℕ) (subject : Subject) (class : ClassId) → is_bound_subject bound subject ≡ true → is_variable subject ≡ true → bound ≤ 2 ^ 31
      → condition_by (kind_of_expr (condition program (subject_read subject) (wants.Kind class))) ≡ Some (spelled.Asserts subject (asked.Kind (naming program class)))
  kind_read bound (Whole k) class h var le =
      let parts = variable_read k ∷ class_read program class ∷ [] in
      let given = roll-Args record { plain = parts; named = [] } in
      let called = expression (e.Name (codes "isinstance")) in
      ap condition_by (outs-Call called given)
      ∙ ap (λ b. if b then kind_asked (out-Args given).plain (out-Args given).named else None) (ap is_isinstance (outs-Name (codes "isinstance")))
      ∙ ap (λ o. kind_asked o.plain o.named) (out-roll-Args record { plain = parts; named = [] })
      ∙ after_found (variable_in (variable_read k)) (λ k. class_in (class_read program class) >>= λ found. Some (spelled.Asserts (Whole k) (asked.Kind found))) k _ (bound_back bound k h le)
      (after_found (class_in (class_read program class)) (λ found. Some (spelled.Asserts (Whole k) (asked.Kind found))) (naming program class) _ (naming_read program class) refl)
  kind_read bound (Attr k name) class h var le = absurd (cc)

  condition_read : (bound : ℕ) (subject : Subject) (what : Wants) → is_bound_subject bound subject ≡ true → is_wanted program subject what ≡ true → bound ≤ 2 ^ 31
      → condition_by (kind_of_expr (condition program (subject_read subject) what)) ≡ Some (spelled.Asserts subject (asking what))
  condition_read bound subject (wants.Is p) h k le =
      comparison_read bound subject Same (literal p) (asked.Is p) h le (after_found (literal_by (kind_of_expr (literal p))) single p _ (literal_read p) (single_read p k))
  condition_read bound subject (wants.Equals shown) h k le =
      let deep : display_depth shown ≤ deepest_display = grind (arith, nat_tests, k) in
      comparison_read bound subject Eq (display shown) (asked.Equals shown) h le (ap (option_map asked.Equals) (display_read deepest_display shown deep))
  condition_read bound subject (wants.Kind class) h k le = kind_read bound subject class h (and_both (is_variable subject) (is_there program class) k).0 le

  pub assertion_read : (bound : ℕ) (a : Assert) → is_bound_subject bound a.subject ≡ true → is_wanted program a.subject a.wants ≡ true → bound ≤ 2 ^ 31
      → spelled_in (assertion program a) ≡ Some (spelled.Asserts a.subject (asking a.wants))
  assertion_read bound a h k le =
      let asks = condition program (subject_read a.subject) a.wants in
      ap spelled_by (outs-Assert asks None) ∙ condition_read bound a.subject a.wants h k le

  pub wanted_found : NamesAreFound program → (subject : Subject) (what : Wants) → is_wanted program subject what ≡ true → wanted program (asking what) ≡ Some what
  wanted_found found subject (wants.Is p) h = refl
  wanted_found found subject (wants.Equals shown) h = refl
  wanted_found found subject (wants.Kind class) h = ap (option_map wants.Kind) (class_found program found class (and_both (is_variable subject) (is_there program class) h).1)
