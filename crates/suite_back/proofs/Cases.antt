-- A test that shows a printable one is read as it.
use Rattle.std.proofs.Common.{Bool, List, None, Option, Some, [], ap, arith, false, length, refl, subst, sym, true, ℕ, ◌&&◌, ◌+◌, ◌++◌, ◌-◌, ◌<◌, ◌^◌, ◌∙◌, ◌∷◌, ◌≡◌, ◌≤◌}
use Rattle.std.specs.Prelude.{if◌then◌else◌, min, nat_lt, ◌==◌}
use Rattle.std.specs.List.{filter_map, list_all}
use Rattle.std.proofs.lemmas.Bool.Decides.{nat_tests}
use Rattle.std.proofs.lemmas.Slice.Eq.{bytes_eq-Decides}
use Rattle.pyn_base.specs.declared.class.ClassId.{ClassId}
use Rattle.py_plain.specs.Classes.{is_exception}
use Rattle.py_plain.specs.Program.{Program}
use Rattle.suite_model.specs.declared.suite.Assert.{Assert}
use Rattle.suite_model.specs.declared.suite.TestCase.{TestCase}
use Rattle.suite_model.specs.declared.test.Step.{Step}
use Rattle.suite_file.specs.declared.entry.At.{At}
use Rattle.suite_file.specs.declared.entry.Entry.{Entry}
use Rattle.suite_file.specs.declared.entry.Entry.TheVariants as entry
use Rattle.suite_file.specs.declared.file.FileTest.{FileTest}
use Rattle.suite_file.specs.SuiteOf.{after_all, case_by, case_of, earlier, earliest, fault_in_test, fault_of, header_fault, is_test_name, start, step_of}
use Rattle.name_laws.specs.Laws.{NamesAreFound}
use Rattle.suite_text.specs.Printable.{are_printable_steps, ascend, binding_steps, is_bound_subject, is_printable_assertion, is_printable_case, is_printable_step, is_raisable, is_there, is_wanted}
use Rattle.suite_back.specs.Laws.{has_few_steps}
use Rattle.suite_back.specs.Shown.{ShowsCase}
use Rattle.suite_text.specs.SuiteText.{asserts_after, asserts_later, raised_class, test_name}
use Rattle.suite_back.specs.Written.{asserts_on, case_at, entries_at, line_after, step_on, steps_on}
use Rattle.suite_back.proofs.Entries.{AllFit, Fits, after_entries, after_entry, entries_read, no_faults}
use Rattle.suite_back.proofs.Truths.{and_both}

-- ---- the steps among the entries

asserts_past : (line : ℕ) (given : List Assert) (es : List Entry) → filter_map step_of (asserts_on line given ++ es) ≡ filter_map step_of es
asserts_past line [] es = refl
asserts_past line (a ∷ given) es = asserts_past (line + 1) given es

step_first : (o : Option ClassId) (line : ℕ) (made : Step) (es : List Entry) → filter_map step_of (step_on o line made ∷ es) ≡ made ∷ filter_map step_of es
step_first None line made es = refl
step_first (Some class) line made es = refl

pub steps_same : (raises : Option (ℕ × ClassId)) (k line : ℕ) (asserts : List Assert) (steps : List Step) → filter_map step_of (steps_on raises k line asserts steps) ≡ steps
steps_same raises k line asserts [] = refl
steps_same raises k line asserts (made ∷ more) =
    let next = line_after (raised_class raises more) line in
    let rest = steps_on raises (k + 1) (next + length (asserts_after k asserts)) (asserts_later k asserts) more in
    step_first (raised_class raises more) line made (asserts_on next (asserts_after k asserts) ++ rest)
    ∙ ap (λ others. made ∷ others) (asserts_past next (asserts_after k asserts) rest ∙ steps_same raises (k + 1) (next + length (asserts_after k asserts)) (asserts_later k asserts) more)

-- ---- how many steps there are

entry_grows : (at : At) (e : Entry) → at.steps ≤ (after_entry at e).steps
entry_grows at (entry.Does line made) = omega arith
entry_grows at (entry.Asserts a) = omega arith
entry_grows at (entry.Raises block class line made) = omega arith
entry_grows at (entry.Faulty line fault) = omega arith

grows : (at : At) (es : List Entry) → at.steps ≤ (after_entries at es).steps
grows at [] = omega arith
grows at (e ∷ es) = let one = entry_grows at e in let more = grows (after_entry at e) es in omega (arith, one, more)

step_counts : (at : At) (o : Option ClassId) (line : ℕ) (made : Step) → (after_entry at (step_on o line made)).steps ≡ at.steps + 1
step_counts at None line made = refl
step_counts at (Some class) line made = refl

some_step : (raises : Option (ℕ × ClassId)) (line : ℕ) (asserts : List Assert) (steps : List Step) → nat_lt 0 (length steps) ≡ true
    → ((after_entries start (steps_on raises 0 line asserts steps)).steps == 0) ≡ false
some_step raises line asserts [] h = absurd (cc)
some_step raises line asserts (made ∷ more) h =
    let o = raised_class raises more in
    let next = line_after o line in
    let rest = asserts_on next (asserts_after 0 asserts) ++ steps_on raises (0 + 1) (next + length (asserts_after 0 asserts)) (asserts_later 0 asserts) more in
    let one = step_counts start o line made in
    let more = grows (after_entry start (step_on o line made)) rest in
    let some : 1 ≤ (after_entries (after_entry start (step_on o line made)) rest).steps = omega (arith, one, more) in
    grind (arith, nat_tests, some)

-- ---- that they fit

-- before step k, where nothing has raised
abbrev open_at : ℕ → At
open_at k = record { steps = k; bound = k; closed = false }

-- how many of so many steps bind a variable
abbrev binding_of : Option (ℕ × ClassId) → ℕ → ℕ
binding_of None count = count
binding_of (Some raises) count = count - 1

binding_is : (raises : Option (ℕ × ClassId)) (steps : List Step) → binding_steps raises steps ≡ binding_of raises (length steps)
binding_is None steps = refl
binding_is (Some raises) steps = refl

module _ (program : Program) where
  module _ (count binding k : ℕ) where
    abbrev are_printable : List Assert → Bool
    are_printable given = list_all (is_printable_assertion program count binding) given

    -- what is told of an assertion after step k
    one_fits : (at : At) (line : ℕ) (a : Assert) → at.steps ≡ k + 1 → at.bound ≡ min (k + 1) binding → at.bound ≤ 2 ^ 31 → a.after ≡ k → is_printable_assertion program count binding a ≡ true
        → Fits program at (entry.Asserts record a { line = line })
    one_fits at line a steps bound le is h =
        let two = and_both (nat_lt a.after count) (is_bound_subject (min (a.after + 1) binding) a.subject && is_wanted program a.subject a.wants) h in
        let own = and_both (is_bound_subject (min (a.after + 1) binding) a.subject) (is_wanted program a.subject a.wants) two.1 in
        let same : min (a.after + 1) binding ≡ at.bound = ap (λ n. min (n + 1) binding) is ∙ sym bound in
        (omega (arith, steps, is), subst (λ n. is_bound_subject n a.subject ≡ true) same own.0, own.1, le)

    asserts_fit : (at : At) (line : ℕ) (given : List Assert) (es : List Entry) → at.steps ≡ k + 1 → at.bound ≡ min (k + 1) binding → at.bound ≤ 2 ^ 31 → are_printable given ≡ true → AllFit program at es
        → AllFit program at (asserts_on line (asserts_after k given) ++ es)
    asserts_fit at line [] es steps bound le h fits = fits
    asserts_fit at line (a ∷ given) es steps bound le h fits =
        let two = and_both (is_printable_assertion program count binding a) (are_printable given) h in
        by (a.after == k) refl two.0 (asserts_fit at (line + 1) given es steps bound le two.1 fits)
      where
        by : (b : Bool) → (a.after == k) ≡ b → is_printable_assertion program count binding a ≡ true → AllFit program at (asserts_on (line + 1) (asserts_after k given) ++ es)
            → AllFit program at (asserts_on line (if b then a ∷ asserts_after k given else []) ++ es)
        by true e own rest = let is : a.after ≡ k = grind (arith, nat_tests, e) in (one_fits at line a steps bound le is own, rest)
        by false e own rest = fits

    later_printable : (given : List Assert) → are_printable given ≡ true → are_printable (asserts_later k given) ≡ true
    later_printable [] h = refl
    later_printable (a ∷ given) h =
        let two = and_both (is_printable_assertion program count binding a) (are_printable given) h in by (a.after == k) (later_printable given two.1)
      where
        by : (b : Bool) → are_printable (asserts_later k given) ≡ true → are_printable (if b then asserts_later k given else a ∷ given) ≡ true
        by true rest = rest
        by false rest = h

  -- a step that need not raise, with the assertions after it
  does_fit : (count binding k line : ℕ) (made : Step) (given : List Assert) (es : List Entry) → k < 2 ^ 31 → k + 1 ≤ binding → is_printable_step program k made ≡ true → are_printable count binding k given ≡ true
      → AllFit program (open_at (k + 1)) es → AllFit program (open_at k) (entry.Does line made ∷ (asserts_on (line + 1) (asserts_after k given) ++ es))
  does_fit count binding k line made given es lt le h g fits =
      ((refl, h, lt, omega (arith, lt)), asserts_fit count binding k (open_at (k + 1)) (line + 1) given es refl (omega (arith, le)) (omega (arith, lt)) g fits)

  -- the last step, where it has to raise
  raise_fits : (count k line block : ℕ) (class : ClassId) (made : Step) (given : List Assert) → k + 1 ≡ count → k < 2 ^ 31 → is_printable_step program k made ≡ true → is_there program class ≡ true
      → is_exception program class ≡ true → are_printable count (count - 1) k given ≡ true
      → AllFit program (open_at k) (entry.Raises block class line made ∷ (asserts_on (block + 2) (asserts_after k given) ++ []))
  raise_fits count k line block class made given is lt h there exception g = (
    (refl, h, there, exception, omega (arith, lt)),
    asserts_fit count (count - 1) k record { steps = k + 1; bound = k; closed = true } (block + 2) given [] refl (omega (arith, is)) (omega (arith, lt)) g tt,
  )

  steps_fit : (raises : Option (ℕ × ClassId)) (count k line : ℕ) (given : List Assert) (steps : List Step) → k + length steps ≡ count → count < 2 ^ 31 → is_raisable program raises ≡ true
      → are_printable_steps program k steps ≡ true → are_printable count (binding_of raises count) k given ≡ true → AllFit program (open_at k) (steps_on raises k line given steps)
  steps_fit raises count k line given [] is lt able h g = tt
  steps_fit None count k line given (made ∷ more) is lt able h g =
      let two = and_both (is_printable_step program k made) (are_printable_steps program (k + 1) more) h in
      let next = line + 1 + length (asserts_after k given) in
      does_fit count count k line made given (steps_on None (k + 1) next (asserts_later k given) more) (omega (arith, is, lt)) (omega (arith, is)) two.0 g
      (steps_fit None count (k + 1) next (asserts_later k given) more (omega (arith, is)) lt able two.1 (later_printable count count k given g))
  steps_fit (Some raises) count k line given (made ∷ []) is lt able h g =
      let two = and_both (is_printable_step program k made) true h in
      let class = and_both (is_there program raises.1) (is_exception program raises.1) able in
      raise_fits count k (line + 1) line raises.1 made given (omega (arith, is)) (omega (arith, is, lt)) two.0 class.0 class.1 g
  steps_fit (Some raises) count k line given (made ∷ other ∷ more) is lt able h g =
      let two = and_both (is_printable_step program k made) (are_printable_steps program (k + 1) (other ∷ more)) h in
      let next = line + 1 + length (asserts_after k given) in
      does_fit count (count - 1) k line made given (steps_on (Some raises) (k + 1) next (asserts_later k given) (other ∷ more)) (omega (arith, is, lt)) (omega (arith, is)) two.0 g
      (steps_fit (Some raises) count (k + 1) next (asserts_later k given) (other ∷ more) (omega (arith, is)) lt able two.1 (later_printable count (count - 1) k given g))

  -- ---- tests

  -- what is told of a printable test
  record Told (case : TestCase) : Type 0 where
    steps : are_printable_steps program 0 case.test.steps ≡ true
    able : is_raisable program case.raises ≡ true
    asserts : list_all (is_printable_assertion program (length case.test.steps) (binding_of case.raises (length case.test.steps))) case.asserts ≡ true
    some : nat_lt 0 (length case.test.steps) ≡ true

  told : (case : TestCase) → is_printable_case program case ≡ true → Told case
  told case h =
      let steps = case.test.steps in
      let binding = binding_steps case.raises steps in
      let asks = list_all (is_printable_assertion program (length steps) binding) case.asserts in
      let one = and_both (nat_lt 0 (length steps)) (are_printable_steps program 0 steps && (is_raisable program case.raises && (ascend 0 case.asserts && asks))) h in
      let two = and_both (are_printable_steps program 0 steps) (is_raisable program case.raises && (ascend 0 case.asserts && asks)) one.1 in
      let three = and_both (is_raisable program case.raises) (ascend 0 case.asserts && asks) two.1 in
      record {
        steps = two.0;
        able = three.0;
        asserts = subst (λ n. list_all (is_printable_assertion program (length steps) n) case.asserts ≡ true) (binding_is case.raises steps) (and_both (ascend 0 case.asserts) asks three.1).1;
        some = one.0;
      }

  case_fits : (line : ℕ) (case : TestCase) → Told case → has_few_steps case ≡ true → AllFit program start (entries_at line case)
  case_fits line case t few =
      let lt : length case.test.steps < 2 ^ 31 = grind (arith, nat_tests, few) in
      steps_fit case.raises (length case.test.steps) 0 (line + 1) case.asserts case.test.steps (omega arith) lt t.able t.steps t.asserts

  module _ (found : NamesAreFound program) where
    -- a test that shows a printable one is read as it, and has no fault
    pub case_read : (number line : ℕ) (case : TestCase) (test : FileTest) → is_printable_case program case ≡ true → has_few_steps case ≡ true → ShowsCase program number line case test
        → (case_of program test ≡ case_at line case) × (fault_in_test program None number test ≡ None)
    case_read number line case test h few shows =
        let t = told case h in
        let fits = case_fits line case t few in
        let entries = entries_at line case in
        let read = entries_read program found start entries test.body fits shows.body_is in
        let steps = steps_same case.raises 0 (line + 1) case.asserts case.test.steps in
        let named : is_test_name number test.name ≡ true = ap (is_test_name number) shows.name_is ∙ (bytes_eq-Decides (test_name number) (test_name number)).1 refl in
        let some : ((after_all start test.body).steps == 0) ≡ false = ap (λ (at : At). at.steps == 0) read.1 ∙ some_step case.raises (line + 1) case.asserts case.test.steps t.some in
        let header : header_fault number test ≡ None = rw (named, shows.bare_is, some) refl in (
          ap (case_by program test.line) read.0 ∙ ap (λ l. case_by program l entries) shows.line_is ∙ ap (λ made. record (case_at line case) { test = record { steps = made } }) steps,
          ap (λ es. earlier (earliest None (filter_map fault_of es)) (header_fault number test)) read.0
              ∙ ap (λ faults. earlier (earliest None faults) (header_fault number test)) (no_faults program start entries fits) ∙ ap (earlier None) header,
        )
