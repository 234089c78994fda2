-- The lines of a printable suite are lines of tokens that a text can hold.
use Rattle.std.proofs.Common.{◌≡◌, ◌∙◌, sym, ap, refl, subst, ℕ, suc, ◌+◌, ◌^◌, ◌<◌, ◌≤◌, Bool, true, false, ◌&&◌, List, [], ◌∷◌, ◌++◌, length, Option, Some, None, arith, append-nil}
use Rattle.std.specs.Prelude.{map, min, nat_lt, codes, ◌==◌, if◌then◌else◌}
use Rattle.std.specs.List.{list_all}
use Rattle.std.proofs.Math.Nat.{min-le_right}
use Rattle.std.proofs.lemmas.Bool.Decides.{nat_tests}
use Rattle.std.proofs.lemmas.List.Folds.{list_all-append}
use Rattle.pyn_base.specs.declared.class.ClassId.{ClassId}
use Rattle.py_language.specs.declared.shape.Atom.TheVariants as a
use Rattle.py_language.specs.declared.shape.Shape.{Shape}
use Rattle.py_language.specs.declared.shape.Shape.TheVariants as shape
use Rattle.py_language.specs.declared.shape.Symbol.TheVariants as s
use Rattle.py_language.specs.declared.token.Token.{Token}
use Rattle.py_language.specs.declared.token.Token.TheVariants as t
use Rattle.py_language.specs.declared.token.Keyword.TheVariants as k
use Rattle.py_language.specs.declared.token.Mark.TheVariants as m
use Rattle.py_language.specs.TokensNames.{keywords_of_2, keywords_of_3, keywords_of_4, keywords_of_5, keywords_of_6, keywords_of_7, keywords_of_8}
use Rattle.py_language.specs.TreesPlaces.{Level, Listed, Conditional}
use Rattle.py_language.specs.TreesSymbols.{symbols}
use Rattle.py_language.specs.Trees.{shape as shape_at, deepest, listed, conditional, disjunction, conjunction, negation, comparison, sum, product, signed, postfix}
use Rattle.py_syntax.specs.declared.expr.Expr.{Expr}
use Rattle.py_syntax.specs.declared.expr.ExprKind.TheVariants as e
use Rattle.py_syntax.specs.declared.operator.CmpOp.{CmpOp}
use Rattle.py_syntax.specs.declared.operator.CmpOp.TheVariants.{Eq, Same}
use Rattle.py_plain.specs.Classes.{is_exception}
use Rattle.py_plain.specs.Program.{Program}
use Rattle.py_spelling.specs.Spelling.{spelled, fits_text, open_text, is_sound, is_balanced, is_bracket, OnlyBracketsOpen}
use Rattle.py_printing.specs.Expressions.{unnumbered, expr_tokens}
use Rattle.py_printing.specs.Printing.{At, Fits}
use Rattle.py_printing.specs.Texts.{shape_tokens}
use Rattle.py_printing.proofs.CleanForms.{clean}
use Rattle.py_printing.proofs.TreeLaw.{fitting_read}
use Rattle.py_layout.specs.Headers.{colon}
use Rattle.py_layout.specs.Rows.{Row, Rows, row, rows_of, indent}
use Rattle.py_printer.specs.Lines.{has_tokens, is_line, LinesReadBack}
use Rattle.py_annotation_layout.specs.Annotations.{annotation_tokens}
use Rattle.module_printer.specs.Modules.{lines_of}
use Rattle.suite_model.specs.declared.suite.Assert.{Assert}
use Rattle.suite_model.specs.declared.suite.Subject.{Subject}
use Rattle.suite_model.specs.declared.suite.Subject.TheVariants.{Whole, Attr}
use Rattle.suite_model.specs.declared.suite.Suite.{Suite}
use Rattle.suite_model.specs.declared.suite.TestCase.{TestCase}
use Rattle.suite_model.specs.declared.suite.Wants.{Wants}
use Rattle.suite_model.specs.declared.suite.Wants.TheVariants.{Is, Equals, Kind}
use Rattle.suite_model.specs.declared.test.Primitive.{Primitive}
use Rattle.suite_model.specs.declared.test.Primitive.TheVariants as prim
use Rattle.suite_model.specs.declared.test.Step.{Step}
use Rattle.suite_model.specs.Assertions.{assertion, condition, display, class_read, subject_read}
use Rattle.suite_model.specs.Statements.{expression, variable, variable_read, literal, right_of, statement_of}
use Rattle.suite_text.specs.Laws.{SuitesAreLines}
use Rattle.suite_text.specs.Printable.{is_identifier, literal_depth, display_depth, is_singleton, is_variable, is_bound_subject, is_there, is_wanted, is_printable_step, are_printable_steps, is_printable_assertion, is_raisable, binding_steps, ascend, is_printable_case, is_printable}
use Rattle.suite_text.specs.Spelled.{is_spelled_literal, is_spelled_step, is_spelled_wish, is_spelled_case, is_spelled}
use Rattle.suite_text.specs.SuiteText.{asserts_after, asserts_later, raised_class, import_rows, test_name, test_row, bare, raises_call, with_row, assertion_rows, step_rows, steps_rows, case_lines, cases_lines, suite_lines}
use Rattle.suite_text.proofs.Clean.{and_both, and_intro, Closed, closed}
use Rattle.suite_text.proofs.Expressions.{decimal_words, variable_named, module_named, isinstance_named, pytest_named, raises_named, name_clean, attribute_clean, method_clean, literal_fine, display_fine, read_fine, right_fine, class_fine}
use Rattle.suite_text.proofs.Fitting.{Fine, attribute_fine, method_fine, call_fine, compare_fine}
use Rattle.suite_text.proofs.Shapes.{given, shape-Name, shape-Attr, shape-Compare, shape-Method, shape-Call}
use Rattle.suite_text.proofs.StatementRows.{bare_row, step_row, assertion_row}

-- ---- the conditions of assertions, and the item of a `with`

subject_fine : (d bound : ℕ) (subject : Subject) → is_bound_subject bound subject ≡ true → bound ≤ 2 ^ 64 → Fine (suc (suc d)) (unnumbered (subject_read subject))
subject_fine d bound (Whole n) h le = read_fine (suc d) n bound h le
subject_fine d bound (Attr n name) h le =
    let two = and_both (nat_lt n bound) (is_identifier name) h in
    let lt : n < bound = grind (arith, nat_tests, two.0) in
    subst (Fine (suc (suc d))) (sym (shape-Attr (variable_read n) name ∙ ap (λ x. shape.Attr x name) (shape-Name (variable n))))
    (attribute_fine d (a.Name (variable n)) name (name_clean (variable n) (variable_named n (omega (arith, lt, le)))) (attribute_clean name two.1))

-- an expression that fits, and is of sound tokens
abbrev IsClosed : Level → Expr → Type 0
IsClosed l x = Closed (expr_tokens l x)

compared_closed : OnlyBracketsOpen → (op : CmpOp) (x y : Expr) → clean (s.Compare op) ≡ true → Fine 49 (unnumbered x) → Fine 49 (unnumbered y) → IsClosed Conditional (expression (e.Compare x ((op, y) ∷ [])))
compared_closed only op x y h f g =
    let both = compare_fine 49 op (unnumbered x) (unnumbered y) h f g in
    subst (λ z. Closed (shape_tokens Conditional z)) (sym (shape-Compare x op y)) (closed only Conditional (shape.Compare (unnumbered x) ((op, unnumbered y) ∷ [])) both.0 both.1)

at_most_two : (p : Primitive) → is_singleton p ≡ true → (literal_depth p ≤ 49) × (is_spelled_literal p ≡ true)
at_most_two prim.None h = (omega arith, refl)
at_most_two (prim.Bool b) h = (omega arith, refl)
at_most_two (prim.Int n) h = absurd (cc)
at_most_two (prim.Str text) h = absurd (cc)

instance_closed : OnlyBracketsOpen → (program : Program) (x : Expr) (class : ClassId) → Fine 49 (unnumbered x) → is_there program class ≡ true → IsClosed Conditional (condition program x (Kind class))
instance_closed only program x class f h =
    let callee = expression (e.Name (codes "isinstance")) in
    let args = x ∷ class_read program class ∷ [] in
    let both = call_fine 48 (a.Name (codes "isinstance")) (map unnumbered args) (name_clean (codes "isinstance") isinstance_named) (f, (class_fine program 47 class h, tt)) in
    subst (λ z. Closed (shape_tokens Conditional z)) (sym (shape-Call callee args ∙ ap (λ z. shape.Call z (given args)) (shape-Name (codes "isinstance"))))
    (closed only Conditional (shape.Call (shape.Atom (a.Name (codes "isinstance"))) (given args)) both.0 both.1)

condition_closed : OnlyBracketsOpen → (program : Program) (bound : ℕ) (subject : Subject) (wants : Wants) → is_bound_subject bound subject ≡ true → is_wanted program subject wants ≡ true
    → is_spelled_wish wants ≡ true → bound ≤ 2 ^ 64 → IsClosed Conditional (condition program (subject_read subject) wants)
condition_closed only program bound subject (Is p) h w k le =
    let two = at_most_two p w in
    compared_closed only Same (subject_read subject) (literal p) refl (subject_fine 47 bound subject h le) (literal_fine 48 p two.0 two.1)
condition_closed only program bound subject (Equals shown) h w k le =
    let deep : display_depth shown ≤ 49 = grind (arith, nat_tests, w) in
    compared_closed only Eq (subject_read subject) (display shown) refl (subject_fine 47 bound subject h le) (display_fine 49 shown deep k)
condition_closed only program bound subject (Kind class) h w k le =
    let two = and_both (is_variable subject) (is_there program class) w in
    instance_closed only program (subject_read subject) class (subject_fine 47 bound subject h le) two.1

with_closed : OnlyBracketsOpen → (program : Program) (class : ClassId) → is_there program class ≡ true → IsClosed Conditional (raises_call program class)
with_closed only program class h =
    let of = expression (e.Name (codes "pytest")) in
    let args = class_read program class ∷ [] in
    let fine = method_fine 48 (a.Name (codes "pytest")) (codes "raises") (map unnumbered args) (name_clean (codes "pytest") pytest_named) (method_clean (codes "raises") raises_named) (class_fine program 47 class h, tt) in
    subst (λ z. Closed (shape_tokens Conditional z)) (sym (shape-Method of (codes "raises") args ∙ ap (λ z. shape.Method z (codes "raises") (given args)) (shape-Name (codes "pytest"))))
    (closed only Conditional (shape.Method (shape.Atom (a.Name (codes "pytest"))) (codes "raises") (given args)) fine.conditional fine.clean)

right_closed : OnlyBracketsOpen → (program : Program) (bound : ℕ) (step : Step) → is_printable_step program bound step ≡ true → is_spelled_step step ≡ true → bound ≤ 2 ^ 64 → IsClosed Listed (right_of program step)
right_closed only program bound step h k le =
    let fine = right_fine program 48 bound step h k le in
    closed only Listed (unnumbered (right_of program step)) fine.listed fine.clean

-- no expression is read from no tokens
nothing : (x : Shape) → shape_at deepest Listed [] ≡ Some x → ⊥
unfolding listed conditional disjunction conjunction negation comparison sum product signed postfix
nothing x h = cc

some_tokens : (x : Expr) → Fits deepest (At Listed) (unnumbered x) → has_tokens (expr_tokens Listed x) ≡ true
some_tokens x fits = by (expr_tokens Listed x) refl
  where
    by : (ts : List Token) → expr_tokens Listed x ≡ ts → has_tokens ts ≡ true
    by [] e = absurd (nothing (unnumbered x) (ap (λ ts. shape_at deepest Listed (symbols ts)) (sym e) ∙ fitting_read deepest Listed (unnumbered x) fits))
    by (y ∷ ts) e = refl

-- ---- lines

abbrev pub row_ok : Row → Bool
row_ok r = has_tokens r.tokens && (list_all is_sound r.tokens && is_balanced [] r.tokens)

lines_ok : (blanks : ℕ) (rows : Rows) → list_all row_ok rows ≡ true → list_all is_line (lines_of blanks rows) ≡ true
lines_ok blanks [] h = refl
lines_ok blanks (r ∷ rows) h =
    let two = and_both (row_ok r) (list_all row_ok rows) h in
    and_intro (row_ok r) (list_all is_line (lines_of 0 rows)) two.0 (lines_ok 0 rows two.1)

ends : (ts : List Token) → Closed ts → is_balanced [] ts ≡ true
ends ts c = ap (is_balanced []) (sym (append-nil ts)) ∙ c.balanced []

made : (column : ℕ) (x : Token) (ts : List Token) → list_all is_sound (x ∷ ts) ≡ true → is_balanced [] (x ∷ ts) ≡ true → row_ok (row column (x ∷ ts)) ≡ true
made column x ts h k = and_intro (list_all is_sound (x ∷ ts)) (is_balanced [] (x ∷ ts)) h k

module _ (only : OnlyBracketsOpen) where
  -- a token that is no bracket before others
  before : (x : Token) (ts : List Token) → is_sound x ≡ true → is_bracket x ≡ false → is_balanced [] ts ≡ true → is_balanced [] (x ∷ ts) ≡ true
  before x ts h e g =
      let none = only x h e in
      and_intro (fits_text [] (spelled x)) (is_balanced (open_text [] (spelled x)) ts) (none.fits []) (ap (λ os. is_balanced os ts) (none.same []) ∙ g)

  step_ok : (column n : ℕ) (ts : List Token) → n < 2 ^ 64 → Closed ts → row_ok (row column (t.Name (variable n) ∷ t.Mark m.Equal ∷ ts)) ≡ true
  step_ok column n ts lt c =
      let named = variable_named n (omega (arith, lt)) in
      made column (t.Name (variable n)) (t.Mark m.Equal ∷ ts) (and_intro (is_identifier (variable n)) (list_all is_sound ts) named c.sound)
      (before (t.Name (variable n)) (t.Mark m.Equal ∷ ts) named refl (before (t.Mark m.Equal) ts refl refl (ends ts c)))

  assertion_ok : (column : ℕ) (ts : List Token) → Closed ts → row_ok (row column (t.Keyword k.Assert ∷ ts)) ≡ true
  assertion_ok column ts c = made column (t.Keyword k.Assert) ts c.sound (before (t.Keyword k.Assert) ts refl refl (ends ts c))

  with_ok : (column : ℕ) (ts : List Token) → Closed ts → row_ok (row column ((t.Keyword k.With ∷ ts) ++ colon)) ≡ true
  with_ok column ts c =
      made column (t.Keyword k.With) (ts ++ colon) (list_all-append is_sound ts colon ∙ and_intro (list_all is_sound ts) true c.sound refl)
      (before (t.Keyword k.With) (ts ++ colon) refl refl (c.balanced colon ∙ before (t.Mark m.Colon) [] refl refl refl))

  bare_ok : (column : ℕ) (ts : List Token) → has_tokens ts ≡ true → Closed ts → row_ok (row column ts) ≡ true
  bare_ok column ts some c = and_intro (has_tokens ts) (list_all is_sound ts && is_balanced [] ts) some (and_intro (list_all is_sound ts) (is_balanced [] ts) c.sound (ends ts c))

  test_named : (number : ℕ) → number < 2 ^ 64 → is_identifier (test_name number) ≡ true
  unfolding keywords_of_2 keywords_of_3 keywords_of_4 keywords_of_5 keywords_of_6 keywords_of_7 keywords_of_8
  test_named number lt = rw (decimal_words number (omega (arith, lt))) refl

  test_ok : (number : ℕ) → number < 2 ^ 64 → row_ok (test_row number) ≡ true
  test_ok number lt =
      let named = test_named number lt in
      let after = t.Mark m.LeftParen ∷ t.Mark m.RightParen ∷ t.Mark m.Colon ∷ [] in
      made 0 (t.Keyword k.Def) (t.Name (test_name number) ∷ after) (and_intro (is_identifier (test_name number)) true named refl)
      (before (t.Keyword k.Def) (t.Name (test_name number) ∷ after) refl refl (before (t.Name (test_name number)) after named refl refl))

  imports_ok : (name : List ℕ) → is_identifier name ≡ true → list_all row_ok (import_rows name) ≡ true
  imports_ok name h =
      let alias = t.Keyword k.As ∷ t.Name (codes "module_0") ∷ [] in
      let first = made 0 (t.Keyword k.Import) (t.Name (codes "pytest") ∷ []) (and_intro (is_identifier (codes "pytest")) true pytest_named refl)
      (before (t.Keyword k.Import) (t.Name (codes "pytest") ∷ []) refl refl (before (t.Name (codes "pytest")) [] pytest_named refl refl)) in
      let second = made 0 (t.Keyword k.Import) (t.Name name ∷ alias) (and_intro (is_identifier name) (is_identifier (codes "module_0") && true) h (and_intro (is_identifier (codes "module_0")) true module_named refl))
      (before (t.Keyword k.Import) (t.Name name ∷ alias) refl refl (before (t.Name name) alias h refl (before (t.Keyword k.As) (t.Name (codes "module_0") ∷ []) refl refl (before (t.Name (codes "module_0")) [] module_named refl refl)))) in
      and_intro (row_ok (row 0 (t.Keyword k.Import ∷ t.Name (codes "pytest") ∷ []))) (row_ok (row 0 (t.Keyword k.Import ∷ t.Name name ∷ alias)) && true) first (and_intro (row_ok (row 0 (t.Keyword k.Import ∷ t.Name name ∷ alias))) true second refl)

  -- ---- assertions after a step

  module _ (program : Program) where
    -- what is asked of an assertion of a printable suite, where a test has so many steps of which so many bind a variable
    abbrev is_good : ℕ → ℕ → Assert → Bool
    is_good steps binding x = is_printable_assertion program steps binding x && is_spelled_wish x.wants

    after_good : (steps binding n : ℕ) (asserts : List Assert) → list_all (is_good steps binding) asserts ≡ true → list_all (is_good steps binding) (asserts_after n asserts) ≡ true
    after_good steps binding n [] h = refl
    after_good steps binding n (x ∷ more) h =
        let two = and_both (is_good steps binding x) (list_all (is_good steps binding) more) h in
        by (x.after == n) two.0 (after_good steps binding n more two.1)
      where
        by : (v : Bool) → is_good steps binding x ≡ true → list_all (is_good steps binding) (asserts_after n more) ≡ true → list_all (is_good steps binding) (if v then x ∷ asserts_after n more else []) ≡ true
        by true one rest = and_intro (is_good steps binding x) (list_all (is_good steps binding) (asserts_after n more)) one rest
        by false one rest = refl

    later_good : (steps binding n : ℕ) (asserts : List Assert) → list_all (is_good steps binding) asserts ≡ true → list_all (is_good steps binding) (asserts_later n asserts) ≡ true
    later_good steps binding n [] h = refl
    later_good steps binding n (x ∷ more) h =
        let two = and_both (is_good steps binding x) (list_all (is_good steps binding) more) h in
        by (x.after == n) (later_good steps binding n more two.1)
      where
        by : (v : Bool) → list_all (is_good steps binding) (asserts_later n more) ≡ true → list_all (is_good steps binding) (if v then asserts_later n more else x ∷ more) ≡ true
        by true rest = rest
        by false rest = h

    one_ok : (steps binding : ℕ) (x : Assert) → is_good steps binding x ≡ true → binding ≤ 2 ^ 64 → list_all row_ok (rows_of annotation_tokens (assertion program x) indent) ≡ true
    one_ok steps binding x g le =
        let good = and_both (is_printable_assertion program steps binding x) (is_spelled_wish x.wants) g in
        let bound = min (x.after + 1) binding in
        let under = min-le_right (x.after + 1) binding in
        let placed = and_both (nat_lt x.after steps) (is_bound_subject bound x.subject && is_wanted program x.subject x.wants) good.0 in
        let asked = and_both (is_bound_subject bound x.subject) (is_wanted program x.subject x.wants) placed.1 in
        let ts = expr_tokens Conditional (condition program (subject_read x.subject) x.wants) in
        let ok = assertion_ok indent ts (condition_closed only program bound x.subject x.wants asked.0 asked.1 good.1 (omega (arith, under, le))) in
        ap (list_all row_ok) (assertion_row program x indent) ∙ and_intro (row_ok (row indent (t.Keyword k.Assert ∷ ts))) true ok refl

    assertions_ok : (steps binding : ℕ) (asserts : List Assert) → list_all (is_good steps binding) asserts ≡ true → binding ≤ 2 ^ 64 → list_all row_ok (assertion_rows program asserts) ≡ true
    assertions_ok steps binding [] h le = refl
    assertions_ok steps binding (x ∷ more) h le =
        let two = and_both (is_good steps binding x) (list_all (is_good steps binding) more) h in
        let own = rows_of annotation_tokens (assertion program x) indent in
        list_all-append row_ok own (assertion_rows program more)
        ∙ and_intro (list_all row_ok own) (list_all row_ok (assertion_rows program more)) (one_ok steps binding x two.0 le) (assertions_ok steps binding more two.1 le)

    -- ---- steps

    plain_ok : (n : ℕ) (step : Step) → is_printable_step program n step ≡ true → is_spelled_step step ≡ true → n < 2 ^ 64 → list_all row_ok (rows_of annotation_tokens (statement_of program n step) indent) ≡ true
    plain_ok n step h k lt =
        let ts = expr_tokens Listed (right_of program step) in
        ap (list_all row_ok) (step_row program n step indent)
        ∙ and_intro (row_ok (row indent (t.Name (variable n) ∷ t.Mark m.Equal ∷ ts))) true (step_ok indent n ts lt (right_closed only program n step h k (omega (arith, lt)))) refl

    block_ok : (class : ClassId) (n : ℕ) (step : Step) → is_there program class ≡ true → is_printable_step program n step ≡ true → is_spelled_step step ≡ true → n < 2 ^ 64
        → list_all row_ok (step_rows program (Some class) n step) ≡ true
    block_ok class n step c h k lt =
        let ts = expr_tokens Listed (right_of program step) in
        let call = expr_tokens Conditional (raises_call program class) in
        let bound : n ≤ 2 ^ 64 = omega (arith, lt) in
        let some = some_tokens (right_of program step) (right_fine program 48 n step h k bound).listed in
        let inner = bare_ok (indent + indent) ts some (right_closed only program n step h k bound) in
        and_intro (row_ok (with_row program class)) (list_all row_ok (rows_of annotation_tokens (bare (right_of program step)) (indent + indent))) (with_ok indent call (with_closed only program class c))
        (ap (list_all row_ok) (bare_row (right_of program step) (indent + indent)) ∙ and_intro (row_ok (row (indent + indent) ts)) true inner refl)

    raised_ok : (raises : Option (ℕ × ClassId)) (more : List Step) (n : ℕ) (step : Step) → is_raisable program raises ≡ true → is_printable_step program n step ≡ true → is_spelled_step step ≡ true → n < 2 ^ 64
        → list_all row_ok (step_rows program (raised_class raises more) n step) ≡ true
    raised_ok None more n step r h k lt = plain_ok n step h k lt
    raised_ok (Some raises) [] n step r h k lt = block_ok raises.1 n step (and_both (is_there program raises.1) (is_exception program raises.1) r).0 h k lt
    raised_ok (Some raises) (next ∷ more) n step r h k lt = plain_ok n step h k lt

    steps_ok : (raises : Option (ℕ × ClassId)) (count binding n : ℕ) (asserts : List Assert) (steps : List Step) → is_raisable program raises ≡ true → are_printable_steps program n steps ≡ true
        → list_all is_spelled_step steps ≡ true → n + length steps < 2 ^ 64 → list_all (is_good count binding) asserts ≡ true → binding ≤ 2 ^ 64
        → list_all row_ok (steps_rows program raises n asserts steps) ≡ true
    steps_ok raises count binding n asserts [] r h k lt g le = refl
    steps_ok raises count binding n asserts (step ∷ more) r h k lt g le =
        let two = and_both (is_printable_step program n step) (are_printable_steps program (n + 1) more) h in
        let spelled = and_both (is_spelled_step step) (list_all is_spelled_step more) k in
        let own = step_rows program (raised_class raises more) n step in
        let checks = assertion_rows program (asserts_after n asserts) in
        let rest = steps_rows program raises (n + 1) (asserts_later n asserts) more in
        list_all-append row_ok own (checks ++ rest)
        ∙ and_intro (list_all row_ok own) (list_all row_ok (checks ++ rest)) (raised_ok raises more n step r two.0 spelled.0 (omega (arith, lt)))
        (list_all-append row_ok checks rest
        ∙ and_intro (list_all row_ok checks) (list_all row_ok rest) (assertions_ok count binding (asserts_after n asserts) (after_good count binding n asserts g) le)
        (steps_ok raises count binding (n + 1) (asserts_later n asserts) more r two.1 spelled.1 (omega (arith, lt)) (later_good count binding n asserts g) le))

    -- ---- tests

    all_good : (count binding : ℕ) (asserts : List Assert) → list_all (is_printable_assertion program count binding) asserts ≡ true → list_all (λ (x : Assert). is_spelled_wish x.wants) asserts ≡ true
        → list_all (is_good count binding) asserts ≡ true
    all_good count binding [] h k = refl
    all_good count binding (x ∷ more) h k =
        let one = and_both (is_printable_assertion program count binding x) (list_all (is_printable_assertion program count binding) more) h in
        let two = and_both (is_spelled_wish x.wants) (list_all (λ (x : Assert). is_spelled_wish x.wants) more) k in
        and_intro (is_good count binding x) (list_all (is_good count binding) more) (and_intro (is_printable_assertion program count binding x) (is_spelled_wish x.wants) one.0 two.0) (all_good count binding more one.1 two.1)

    binding_within : (raises : Option (ℕ × ClassId)) (steps : List Step) → length steps < 2 ^ 64 → binding_steps raises steps ≤ 2 ^ 64
    binding_within None steps lt = omega (arith, lt)
    binding_within (Some raises) steps lt = omega (arith, lt)

    case_ok : (number : ℕ) (x : TestCase) → number < 2 ^ 64 → is_printable_case program x ≡ true → is_spelled_case x ≡ true → list_all is_line (case_lines program number x) ≡ true
    case_ok number x lt h k =
        let steps = x.test.steps in
        let count = length steps in
        let binding = binding_steps x.raises steps in
        let asks = list_all (is_printable_assertion program count binding) x.asserts in
        let one = and_both (nat_lt 0 count) (are_printable_steps program 0 steps && (is_raisable program x.raises && (ascend 0 x.asserts && asks))) h in
        let two = and_both (are_printable_steps program 0 steps) (is_raisable program x.raises && (ascend 0 x.asserts && asks)) one.1 in
        let three = and_both (is_raisable program x.raises) (ascend 0 x.asserts && asks) two.1 in
        let four = and_both (ascend 0 x.asserts) asks three.1 in
        let sized = and_both (nat_lt count (2 ^ 64)) (list_all is_spelled_step steps && list_all (λ (x : Assert). is_spelled_wish x.wants) x.asserts) k in
        let spelled = and_both (list_all is_spelled_step steps) (list_all (λ (x : Assert). is_spelled_wish x.wants) x.asserts) sized.1 in
        let fits : count < 2 ^ 64 = grind (arith, nat_tests, sized.0) in
        let body = steps_rows program x.raises 0 x.asserts steps in
        lines_ok 2 (test_row number ∷ body)
        (and_intro (row_ok (test_row number)) (list_all row_ok body) (test_ok number lt)
        (steps_ok x.raises count binding 0 x.asserts steps three.0 two.0 spelled.0 (omega (arith, fits)) (all_good count binding x.asserts four.1 spelled.1) (binding_within x.raises steps fits)))

    cases_ok : (number : ℕ) (cases : List TestCase) → number + length cases < 2 ^ 64 → list_all (is_printable_case program) cases ≡ true → list_all is_spelled_case cases ≡ true → list_all is_line (cases_lines program number cases) ≡ true
    cases_ok number [] lt h k = refl
    cases_ok number (x ∷ cases) lt h k =
        let one = and_both (is_printable_case program x) (list_all (is_printable_case program) cases) h in
        let two = and_both (is_spelled_case x) (list_all is_spelled_case cases) k in
        let own = case_lines program number x in
        let rest = cases_lines program (number + 1) cases in
        list_all-append is_line own rest
        ∙ and_intro (list_all is_line own) (list_all is_line rest) (case_ok number x (omega (arith, lt)) one.0 two.0) (cases_ok (number + 1) cases (omega (arith, lt)) one.1 two.1)

    pub suite_ok : (suite : Suite) → is_printable program suite ≡ true → is_spelled suite ≡ true → list_all is_line (suite_lines program suite) ≡ true
    suite_ok suite h k =
        let one = and_both (is_identifier suite.module) (list_all (is_printable_case program) suite.cases) h in
        let two = and_both (nat_lt (length suite.cases) (2 ^ 64)) (list_all is_spelled_case suite.cases) k in
        let fits : length suite.cases < 2 ^ 64 = grind (arith, nat_tests, two.0) in
        let head = lines_of 0 (import_rows suite.module) in
        list_all-append is_line head (cases_lines program 0 suite.cases)
        ∙ and_intro (list_all is_line head) (list_all is_line (cases_lines program 0 suite.cases)) (lines_ok 0 (import_rows suite.module) (imports_ok suite.module one.0)) (cases_ok 0 suite.cases (omega (arith, fits)) one.1 two.1)

pub suites_are_lines : OnlyBracketsOpen → LinesReadBack → SuitesAreLines
suites_are_lines only read program suite h k = read (suite_lines program suite) (suite_ok only program suite h k)
