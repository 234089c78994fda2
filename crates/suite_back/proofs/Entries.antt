-- A statement that shows an entry is read as it, where the entry fits.
use Rattle.std.proofs.Common.{List, None, Option, Some, [], ap, arith, false, refl, subst, true, ℕ, ◌&&◌, ◌+◌, ◌-◌, ◌<◌, ◌^◌, ◌∙◌, ◌∷◌, ◌≡◌, ◌≤◌}
use Rattle.std.specs.Prelude.{Ok, if◌then◌else◌, not, ◌==◌}
use Rattle.std.specs.List.{filter_map}
use Rattle.std.proofs.lemmas.Bool.Decides.{nat_tests}
use Rattle.pyn_base.specs.declared.class.ClassId.{ClassId}
use Rattle.pyn_base.specs.declared.construct.Construct.TheVariants as construct
use Rattle.py_syntax.specs.declared.expr.Expr.{Expr}
use Rattle.py_syntax.specs.declared.stmt.Stmt.{Stmt}
use Rattle.py_syntax.specs.declared.stmt.StmtKind.TheVariants.{outs-Assign, outs-Bare}
use Rattle.py_syntax.specs.declared.stmt.Target.TheVariants as target
use Rattle.py_plain.specs.Classes.{is_exception}
use Rattle.py_plain.specs.Program.{Program}
use Rattle.suite_model.specs.declared.suite.Assert.{Assert}
use Rattle.suite_model.specs.declared.test.Step.{Step}
use Rattle.suite_model.specs.Statements.{right_of, statement_of, variable}
use Rattle.suite_file.specs.declared.entry.At.{At}
use Rattle.suite_file.specs.declared.entry.Entry.{Entry}
use Rattle.suite_file.specs.declared.entry.Entry.TheVariants as entry
use Rattle.suite_file.specs.declared.file.FileStmt.{FileStmt}
use Rattle.suite_file.specs.declared.file.FileStmt.TheVariants.{Plain, Raises}
use Rattle.suite_file.specs.declared.spelled.Spelled.TheVariants as spelled
use Rattle.suite_file.specs.SuiteOf.{after, after_all, after_spelled, asserts, does, entries_from, entry_of, exception_named, fault_of, looked_up, or_unknown, plain_entry, step_in}
use Rattle.suite_file.specs.Spelled.{alone_by, alone_in, class_in, right_in, spelled_by, spelled_in, variable_named, ◌>>=◌}
use Rattle.name_laws.specs.Laws.{NamesAreFound}
use Rattle.suite_text.specs.Printable.{is_bound_subject, is_printable_step, is_there, is_wanted}
use Rattle.suite_back.specs.Shown.{ShowsEntries, ShowsEntry, step_after}
use Rattle.suite_back.proofs.Asserted.{assertion_read, subject_bound, wanted_found}
use Rattle.suite_back.proofs.Classes.{exception_found, naming_read}
use Rattle.suite_back.proofs.Steps.{spelling, spelling_read, step_found}
use Rattle.suite_back.proofs.Truths.{after_found}
use Rattle.suite_back.proofs.Variables.{named_back}

-- ---- where a test is after an entry

abbrev pub after_entry : At → Entry → At
after_entry at (entry.Does line made) = record at { steps = at.steps + 1; bound = at.bound + 1 }
after_entry at (entry.Raises block class line made) = record at { steps = at.steps + 1; closed = true }
after_entry at _ = at

abbrev pub after_entries : At → List Entry → At
after_entries at [] = at
after_entries at (e ∷ es) = after_entries (after_entry at e) es

module _ (program : Program) where
  -- an entry that may come there
  abbrev pub Fits : At → Entry → Type 0
  Fits at (entry.Does line made) = (at.closed ≡ false) × (is_printable_step program at.bound made ≡ true) × (at.steps < 2 ^ 31) × (at.bound ≤ 2 ^ 31)
  Fits at (entry.Raises block class line made) =
      (at.closed ≡ false) × (is_printable_step program at.bound made ≡ true) × (is_there program class ≡ true) × (is_exception program class ≡ true) × (at.bound ≤ 2 ^ 31)
  Fits at (entry.Asserts a) = (a.after ≡ at.steps - 1) × (is_bound_subject at.bound a.subject ≡ true) × (is_wanted program a.subject a.wants ≡ true) × (at.bound ≤ 2 ^ 31)
  Fits at (entry.Faulty line fault) = ⊥

  abbrev pub AllFit : At → List Entry → Type 0
  AllFit at [] = Unit {0}
  AllFit at (e ∷ es) = Fits at e × AllFit (after_entry at e) es

  pub no_faults : (at : At) (es : List Entry) → AllFit at es → filter_map fault_of es ≡ []
  no_faults at [] h = refl
  no_faults at (entry.Does line made ∷ es) h = no_faults (after_entry at (entry.Does line made)) es h.1
  no_faults at (entry.Raises block class line made ∷ es) h = no_faults (after_entry at (entry.Raises block class line made)) es h.1
  no_faults at (entry.Asserts a ∷ es) h = no_faults at es h.1
  no_faults at (entry.Faulty line fault ∷ es) h = absurd h.0

  -- ---- steps

  assigned : (k : ℕ) (made : Step) (bound : ℕ) → k < 2 ^ 31 → is_printable_step program bound made ≡ true → bound ≤ 2 ^ 31
      → spelled_in (statement_of program k made) ≡ Some (spelled.Assigns k (spelling program made))
  assigned k made bound lt h le =
      let value = right_of program made in
      ap spelled_by (outs-Assign (target.Name (variable k) ∷ []) false None value)
      ∙ after_found (variable_named (variable k)) (λ k. right_in value >>= λ made. Some (spelled.Assigns k made)) k _ (named_back k lt)
      (after_found (right_in value) (λ made. Some (spelled.Assigns k made)) (spelling program made) _ (spelling_read program bound made h le) refl)

  same_number : (k : ℕ) → (k == k) ≡ true
  same_number k = grind (arith, nat_tests)

  module _ (found : NamesAreFound program) where
    does_read : (at : At) (line : ℕ) (made : Step) (stmt : Stmt) → Fits at (entry.Does line made) → ShowsEntry program at.steps (entry.Does line made) (Plain stmt)
        → (entry_of program at (Plain stmt) ≡ entry.Does line made) × (after at (Plain stmt) ≡ after_entry at (entry.Does line made))
    does_read at line made stmt f shows =
        let is = shows.1 ∙ assigned at.steps made at.bound f.2 f.1 f.3 in (
          ap (plain_entry program at stmt.line) is
              ∙ ap (λ b. if not b && at.steps == at.steps then does stmt.line (step_in program at.bound (spelling program made)) else entry.Faulty stmt.line construct.Form) f.0
              ∙ ap (λ b. if b then does stmt.line (step_in program at.bound (spelling program made)) else entry.Faulty stmt.line construct.Form) (same_number at.steps)
              ∙ ap (does stmt.line) (step_found program found at.bound made f.1) ∙ ap (λ l. entry.Does l made) shows.0,
          ap (after_spelled at) is,
        )

    asserts_read : (at : At) (a : Assert) (stmt : Stmt) → Fits at (entry.Asserts a) → ShowsEntry program at.steps (entry.Asserts a) (Plain stmt)
        → (entry_of program at (Plain stmt) ≡ entry.Asserts a) × (after at (Plain stmt) ≡ at)
    asserts_read at a stmt f shows =
        let is = shows.1 ∙ assertion_read program at.bound a f.1 f.2 f.3 in (
          ap (plain_entry program at stmt.line) is ∙ ap (asserts at stmt.line a.subject) (wanted_found program found a.subject a.wants f.2)
              ∙ rw (subject_bound at.bound a.subject f.1, ← f.0, shows.0) refl,
          ap (after_spelled at) is,
        )

    raises_read : (at : At) (block : ℕ) (class : ClassId) (line : ℕ) (made : Step) (own : ℕ) (named : Expr) (stmt : Stmt) (more : Option ℕ)
        → Fits at (entry.Raises block class line made) → ShowsEntry program at.steps (entry.Raises block class line made) (Raises own named stmt more)
        → (entry_of program at (Raises own named stmt more) ≡ entry.Raises block class line made)
    raises_read at block class line made own named stmt more f shows =
        let class_is : looked_up (exception_named program) (class_in named) ≡ Ok class =
        ap (looked_up (exception_named program)) (shows.1 ∙ naming_read program class) ∙ ap or_unknown (exception_found program found class f.2 f.3) in
        let made_is : looked_up (step_in program at.bound) (alone_in stmt) ≡ Ok made =
        ap (looked_up (step_in program at.bound)) (shows.3 ∙ ap alone_by (outs-Bare (right_of program made)) ∙ spelling_read program at.bound made f.1 f.4)
        ∙ ap or_unknown (step_found program found at.bound made f.1) in
        rw (class_is, made_is, shows.4, f.0, shows.0, shows.2) refl

    entry_read : (at : At) (e : Entry) (stmt : FileStmt) → Fits at e → ShowsEntry program at.steps e stmt → (entry_of program at stmt ≡ e) × (after at stmt ≡ after_entry at e)
    entry_read at (entry.Does line made) (Plain stmt) f shows = does_read at line made stmt f shows
    entry_read at (entry.Does line made) (Raises own named stmt more) f shows = absurd (cc)
    entry_read at (entry.Asserts a) (Plain stmt) f shows = asserts_read at a stmt f shows
    entry_read at (entry.Asserts a) (Raises own named stmt more) f shows = absurd (cc)
    entry_read at (entry.Raises block class line made) (Plain stmt) f shows = absurd (cc)
    entry_read at (entry.Raises block class line made) (Raises own named stmt more) f shows = (raises_read at block class line made own named stmt more f shows, refl)
    entry_read at (entry.Faulty line fault) stmt f shows = absurd f

    steps_are : (at : At) (e : Entry) → Fits at e → step_after at.steps e ≡ (after_entry at e).steps
    steps_are at (entry.Does line made) f = refl
    steps_are at (entry.Asserts a) f = refl
    steps_are at (entry.Raises block class line made) f = refl
    steps_are at (entry.Faulty line fault) f = absurd f

    -- a body that shows entries which fit is read as them
    pub entries_read : (at : At) (es : List Entry) (stmts : List FileStmt) → AllFit at es → ShowsEntries program at.steps es stmts
        → (entries_from program at stmts ≡ es) × (after_all at stmts ≡ after_entries at es)
    entries_read at [] [] fits shows = (refl, refl)
    entries_read at [] (stmt ∷ stmts) fits shows = absurd (cc)
    entries_read at (e ∷ es) [] fits shows = absurd (cc)
    entries_read at (e ∷ es) (stmt ∷ stmts) fits shows =
        let one = entry_read at e stmt fits.0 shows.0 in
        let rest = entries_read (after_entry at e) es stmts fits.1 (subst (λ k. ShowsEntries program k es stmts) (steps_are at e fits.0) shows.1) in (
          ap (λ first. first ∷ entries_from program (after at stmt) stmts) one.0 ∙ ap (λ next. e ∷ entries_from program next stmts) one.1 ∙ ap (λ others. e ∷ others) rest.0,
          ap (λ next. after_all next stmts) one.1 ∙ rest.1,
        )
