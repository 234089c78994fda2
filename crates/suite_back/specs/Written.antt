-- A suite with the lines that it has in its text.
use Rattle.std.specs.Prelude.{ℕ, ◌+◌, List, [], ◌∷◌, ◌++◌, length, Option, Some, None}
use Rattle.std.specs.List.{filter_map}
use Rattle.pyn_base.specs.declared.class.ClassId.{ClassId}
use Rattle.suite_model.specs.declared.suite.Assert.{Assert}
use Rattle.suite_model.specs.declared.suite.Suite.{Suite}
use Rattle.suite_model.specs.declared.suite.TestCase.{TestCase}
use Rattle.suite_model.specs.declared.test.Step.{Step}
use Rattle.suite_file.specs.declared.entry.Entry.{Entry}
use Rattle.suite_file.specs.declared.entry.Entry.TheVariants as entry
use Rattle.suite_file.specs.SuiteOf.{line_of, raises_of, assert_of, first_of}
use Rattle.suite_text.specs.SuiteText.{asserts_after, asserts_later, raised_class}

-- ---- what stands in a test, in order, each with its line

-- assertions from a line on
abbrev pub asserts_on : ℕ → List Assert → List Entry
asserts_on line [] = []
asserts_on line (a ∷ more) = entry.Asserts (record a { line = line }) ∷ asserts_on (line + 1) more

-- a step; what has to raise is in a block that begins on the line
abbrev pub step_on : Option ClassId → ℕ → Step → Entry
step_on None line step = entry.Does line step
step_on (Some class) line step = entry.Raises line class (line + 1) step

abbrev pub line_after : Option ClassId → ℕ → ℕ
line_after None line = line + 1
line_after (Some class) line = line + 2

-- the steps from step k on, each with the assertions after it
abbrev pub steps_on : Option (ℕ × ClassId) → ℕ → ℕ → List Assert → List Step → List Entry
steps_on raises k line asserts [] = []
steps_on raises k line asserts (step ∷ more) =
    let next = line_after (raised_class raises more) line in
    step_on (raised_class raises more) line step
    ∷ (asserts_on next (asserts_after k asserts) ++ steps_on raises (k + 1) (next + length (asserts_after k asserts)) (asserts_later k asserts) more)

-- of a test whose header is on this line
abbrev pub entries_at : ℕ → TestCase → List Entry
entries_at line case = steps_on case.raises 0 (line + 1) case.asserts case.test.steps

abbrev pub lines_of_entry : Entry → ℕ
lines_of_entry (entry.Raises block class line step) = 2
lines_of_entry _ = 1

abbrev pub lines_of_entries : List Entry → ℕ
lines_of_entries [] = 0
lines_of_entries (e ∷ more) = lines_of_entry e + lines_of_entries more

-- ---- tests and suites

abbrev pub case_at : ℕ → TestCase → TestCase
case_at line case =
    let entries = entries_at line case in
    record case {
      line = line;
      lines = filter_map line_of entries;
      raises = first_of (filter_map raises_of entries);
      asserts = filter_map assert_of entries;
    }

-- the header after a test whose header is on this line: two lines are empty between them
abbrev pub header_after : ℕ → TestCase → ℕ
header_after line case = line + 1 + lines_of_entries (entries_at line case) + 2

abbrev pub cases_at : ℕ → List TestCase → List TestCase
cases_at line [] = []
cases_at line (case ∷ cases) = case_at line case ∷ cases_at (header_after line case) cases

-- The first header comes after two import lines and two empty ones.
abbrev pub first_header : ℕ
first_header = 5

abbrev pub written : Suite → Suite
written suite = record suite { cases = cases_at first_header suite.cases }
