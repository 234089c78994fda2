-- A file that shows a printable suite is read as it, test by test.
use Rattle.std.proofs.Common.{List, None, [], ap, false, map, refl, true, ℕ, ◌+◌, ◌∙◌, ◌∷◌, ◌≡◌}
use Rattle.std.specs.List.{list_all}
use Rattle.py_plain.specs.Program.{Program}
use Rattle.suite_model.specs.declared.suite.TestCase.{TestCase}
use Rattle.suite_file.specs.declared.file.FileTest.{FileTest}
use Rattle.suite_file.specs.SuiteOf.{case_of, earliest, fault_in, fault_in_tests, form_at}
use Rattle.suite_file.specs.Spelled.{is_empty}
use Rattle.name_laws.specs.Laws.{NamesAreFound}
use Rattle.suite_text.specs.Printable.{is_identifier, is_printable_case}
use Rattle.suite_back.specs.Laws.{ShownIsRead, has_few_steps}
use Rattle.suite_back.specs.Shown.{ShowsCases}
use Rattle.suite_back.specs.Written.{case_at, cases_at, first_header, header_after}
use Rattle.suite_back.proofs.Cases.{case_read}
use Rattle.suite_back.proofs.Truths.{and_both}

module _ (program : Program) (found : NamesAreFound program) where
  cases_read : (number line : ℕ) (cases : List TestCase) (tests : List FileTest) → list_all (is_printable_case program) cases ≡ true → list_all has_few_steps cases ≡ true → ShowsCases program number line cases tests
      → (map (case_of program) tests ≡ cases_at line cases) × (fault_in_tests program None number tests ≡ None)
  cases_read number line [] [] h few shows = (refl, refl)
  cases_read number line [] (test ∷ tests) h few shows = absurd (cc)
  cases_read number line (case ∷ cases) [] h few shows = absurd (cc)
  cases_read number line (case ∷ cases) (test ∷ tests) h few shows =
      let two = and_both (is_printable_case program case) (list_all (is_printable_case program) cases) h in
      let fews = and_both (has_few_steps case) (list_all has_few_steps cases) few in
      let one = case_read program found number line case test two.0 fews.0 shows.0 in
      let rest = cases_read (number + 1) (header_after line case) cases tests two.1 fews.1 shows.1 in (
        ap (λ first. first ∷ map (case_of program) tests) one.0 ∙ ap (λ others. case_at line case ∷ others) rest.0,
        ap (λ fault. fault_in_tests program fault (number + 1) tests) one.1 ∙ rest.1,
      )

named_module : (name : List ℕ) → is_identifier name ≡ true → is_empty name ≡ false
named_module [] h = absurd (cc)
named_module (c ∷ name) h = refl

pub shown_is_read : ShownIsRead
shown_is_read program suite file found printable few shows =
    let two = and_both (is_identifier suite.module) (list_all (is_printable_case program) suite.cases) printable in
    let read = cases_read program found 0 first_header suite.cases file.tests two.1 few shows.tests_are in
    let named : is_empty file.module ≡ false = ap is_empty shows.module_is ∙ named_module suite.module two.0 in
    let faultless : fault_in program file ≡ None = ap (λ lines. fault_in_tests program (earliest None (map form_at lines)) 0 file.tests) shows.strays_are ∙ read.1 in
    rw (named, faultless, shows.module_is, read.0) refl
