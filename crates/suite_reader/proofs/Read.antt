-- What is read of a test, field by field, and of a file.
use Rattle.std.proofs.Common.{◌≡◌, ◌∙◌, refl, sym, ap, ℕ, Bool, true, false, List, [], ◌∷◌, ◌++◌, map, append_assoc, append-nil, Option, Some, None}
use Rattle.std.specs.Prelude.{if◌then◌else◌, bytes_eq, Result, Ok, Err}
use Rattle.std.specs.List.{filter_map}
use Rattle.std.specs.Option.{option_or}
use Rattle.pyn_base.specs.declared.construct.Construct.{Construct}
use Rattle.pyn_base.specs.declared.construct.Construct.TheVariants.{Header}
use Rattle.py_syntax.specs.declared.refusal.Refusal.{Refusal}
use Rattle.py_syntax.specs.declared.refusal.Refusal.TheVariants.{Refused}
use Rattle.py_plain.specs.Program.{Program}
use Rattle.suite_model.specs.declared.suite.Suite.{Suite}
use Rattle.suite_model.specs.declared.suite.TestCase.{TestCase}
use Rattle.suite_file.specs.declared.entry.Entry.{Entry}
use Rattle.suite_file.specs.declared.entry.Entry.TheVariants as entry
use Rattle.suite_file.specs.declared.file.FileTest.{FileTest}
use Rattle.suite_file.specs.declared.file.SuiteFile.{SuiteFile}
use Rattle.suite_file.specs.Spelled.{is_empty}
use Rattle.suite_file.specs.SuiteOf.{Fault, earlier, earliest, step_of, line_of, raises_of, assert_of, fault_of, first_of, form_at, entries_of, header_fault, case_of, fault_in_test, fault_in_tests, fault_in, unless_fault, suite_of}
use Rattle.suite_reader.specs.declared.cases.Parts.{Parts}
use Rattle.suite_reader.specs.Parts.{with_entry, with_entries}

steps_are : (p : Parts) (es : List Entry) → (with_entries p es).steps ≡ p.steps ++ filter_map step_of es
steps_are p [] = sym (append-nil p.steps)
steps_are p (entry.Does line made ∷ es) = steps_are (with_entry p (entry.Does line made)) es ∙ append_assoc p.steps (made ∷ []) (filter_map step_of es)
steps_are p (entry.Raises block class line made ∷ es) = steps_are (with_entry p (entry.Raises block class line made)) es ∙ append_assoc p.steps (made ∷ []) (filter_map step_of es)
steps_are p (entry.Asserts a ∷ es) = steps_are (with_entry p (entry.Asserts a)) es
steps_are p (entry.Faulty line fault ∷ es) = steps_are (with_entry p (entry.Faulty line fault)) es

lines_are : (p : Parts) (es : List Entry) → (with_entries p es).lines ≡ p.lines ++ filter_map line_of es
lines_are p [] = sym (append-nil p.lines)
lines_are p (entry.Does line made ∷ es) = lines_are (with_entry p (entry.Does line made)) es ∙ append_assoc p.lines (line ∷ []) (filter_map line_of es)
lines_are p (entry.Raises block class line made ∷ es) = lines_are (with_entry p (entry.Raises block class line made)) es ∙ append_assoc p.lines (line ∷ []) (filter_map line_of es)
lines_are p (entry.Asserts a ∷ es) = lines_are (with_entry p (entry.Asserts a)) es
lines_are p (entry.Faulty line fault ∷ es) = lines_are (with_entry p (entry.Faulty line fault)) es

asserts_are : (p : Parts) (es : List Entry) → (with_entries p es).asserts ≡ p.asserts ++ filter_map assert_of es
asserts_are p [] = sym (append-nil p.asserts)
asserts_are p (entry.Does line made ∷ es) = asserts_are (with_entry p (entry.Does line made)) es
asserts_are p (entry.Raises block class line made ∷ es) = asserts_are (with_entry p (entry.Raises block class line made)) es
asserts_are p (entry.Asserts a ∷ es) = asserts_are (with_entry p (entry.Asserts a)) es ∙ append_assoc p.asserts (a ∷ []) (filter_map assert_of es)
asserts_are p (entry.Faulty line fault ∷ es) = asserts_are (with_entry p (entry.Faulty line fault)) es

or_none : {A : Type 0} (o : Option A) → o ≡ option_or o None
or_none None = refl
or_none (Some a) = refl

or_first : {A : Type 0} (o : Option A) (a : A) (others : Option A) → option_or (option_or o (Some a)) others ≡ option_or o (Some a)
or_first None a others = refl
or_first (Some b) a others = refl

raises_are : (p : Parts) (es : List Entry) → (with_entries p es).raises ≡ option_or p.raises (first_of (filter_map raises_of es))
raises_are p [] = or_none p.raises
raises_are p (entry.Does line made ∷ es) = raises_are (with_entry p (entry.Does line made)) es
raises_are p (entry.Raises block class line made ∷ es) = raises_are (with_entry p (entry.Raises block class line made)) es ∙ or_first p.raises (block, class) (first_of (filter_map raises_of es))
raises_are p (entry.Asserts a ∷ es) = raises_are (with_entry p (entry.Asserts a)) es
raises_are p (entry.Faulty line fault ∷ es) = raises_are (with_entry p (entry.Faulty line fault)) es

fault_is : (p : Parts) (es : List Entry) → (with_entries p es).fault ≡ earliest p.fault (filter_map fault_of es)
fault_is p [] = refl
fault_is p (entry.Does line made ∷ es) = fault_is (with_entry p (entry.Does line made)) es
fault_is p (entry.Raises block class line made ∷ es) = fault_is (with_entry p (entry.Raises block class line made)) es
fault_is p (entry.Asserts a ∷ es) = fault_is (with_entry p (entry.Asserts a)) es
fault_is p (entry.Faulty line fault ∷ es) = fault_is (with_entry p (entry.Faulty line fault)) es

abbrev pub nothing : Option Fault → Parts
nothing fault = record { steps = []; lines = []; raises = None; asserts = []; fault = fault }

abbrev pub case_by_parts : ℕ → Parts → TestCase
case_by_parts line p = record { line = line; test = record { steps = p.steps }; lines = p.lines; raises = p.raises; asserts = p.asserts }

abbrev pub both : ℕ → Parts → Option Fault → TestCase × Option Fault
both line p told = (case_by_parts line p, told)

module _ (program : Program) (fault : Option Fault) (number : ℕ) (test : FileTest) where
  abbrev pub read : TestCase × Option Fault
  read = (case_of program test, fault_in_test program fault number test)

  pub test_is : (p : Parts) (header told : Option Fault) → p ≡ with_entries (nothing fault) (entries_of program test) → header ≡ header_fault number test → told ≡ earlier p.fault header
      → both test.line p told ≡ read
  test_is p header told all e f =
      let es = entries_of program test in
      let steps : (with_entries (nothing fault) es).steps ≡ filter_map step_of es = steps_are (nothing fault) es in
      let lines : (with_entries (nothing fault) es).lines ≡ filter_map line_of es = lines_are (nothing fault) es in
      let raises : (with_entries (nothing fault) es).raises ≡ first_of (filter_map raises_of es) = raises_are (nothing fault) es in
      let asserts : (with_entries (nothing fault) es).asserts ≡ filter_map assert_of es = asserts_are (nothing fault) es in
      let found : (with_entries (nothing fault) es).fault ≡ earliest fault (filter_map fault_of es) = fault_is (nothing fault) es in
      let last : told ≡ fault_in_test program fault number test =
      f ∙ ap (λ q. earlier q.fault header) all ∙ ap (λ g. earlier g header) found ∙ ap (λ h. earlier (earliest fault (filter_map fault_of es)) h) e in
      let case : case_by_parts test.line (with_entries (nothing fault) es) ≡ case_of program test = cc in
      ap (λ q. both test.line q told) all ∙ ap (λ t. (case_by_parts test.line (with_entries (nothing fault) es), t)) last ∙ ap (λ t. (t, fault_in_test program fault number test)) case

-- ---- files

empty_is : (name : List ℕ) → is_empty name ≡ bytes_eq name []
empty_is [] = refl
empty_is (c ∷ name) = refl

abbrev answer : Program → SuiteFile → Bool → Result Suite Refusal
answer program file b = if b then Err (Refused 1 Header) else unless_fault program (fault_in program file) file

pub without_imports : (program : Program) (file : SuiteFile) → bytes_eq file.«module» [] ≡ true → suite_of program file ≡ Err (Refused 1 Header)
without_imports program file e = ap (answer program file) (empty_is file.«module» ∙ e)

abbrev pub tests_read : List TestCase → Option Fault → List TestCase × Option Fault
tests_read cases fault = (cases, fault)

-- what a file is, from its parts as they were read
module _ (program names : Program) (file : SuiteFile) (lines : List ℕ) (strays : Option Fault) (tests : List FileTest) (cases : List TestCase) (fault : Option Fault)
    (imports : bytes_eq file.«module» [] ≡ false) (same : names ≡ program) (others : lines ≡ file.strays) (all : tests ≡ file.tests)
    (first : strays ≡ earliest None (map form_at lines)) (read_all : tests_read cases fault ≡ tests_read (map (case_of names) tests) (fault_in_tests names strays 0 tests)) where
  fault_found : fault_in program file ≡ fault
  fault_found =
      let start : earliest None (map form_at file.strays) ≡ strays = ap (λ ls. earliest None (map form_at ls)) (sym others) ∙ sym first in
      ap (λ o. fault_in_tests program o 0 file.tests) start
      ∙ ap (λ ts. fault_in_tests program strays 0 ts) (sym all)
      ∙ ap (λ p. fault_in_tests p strays 0 tests) (sym same)
      ∙ sym (ap (λ pair. pair.1) read_all)

  cases_found : cases ≡ map (case_of program) file.tests
  cases_found = ap (λ pair. pair.0) read_all ∙ ap (λ p. map (case_of p) tests) same ∙ ap (λ ts. map (case_of program) ts) all

  by_fault : (told : Option Fault) → fault ≡ told → suite_of program file ≡ unless_fault program told file
  by_fault told e = ap (answer program file) (empty_is file.«module» ∙ imports) ∙ ap (λ found. unless_fault program found file) (fault_found ∙ e)

  pub accepted : (name : List ℕ) → fault ≡ None → name ≡ file.«module» → suite_of program file ≡ Ok (record { «module» = name; cases = cases })
  accepted name e f = by_fault None e ∙ ap (λ cs. Ok (record { «module» = file.«module»; cases = cs })) (sym cases_found) ∙ ap (λ n. Ok (record { «module» = n; cases = cases })) (sym f)

  pub refused : (line : ℕ) (construct : Construct) → fault ≡ Some (line, construct) → suite_of program file ≡ Err (Refused line construct)
  refused line construct e = by_fault (Some (line, construct)) e
