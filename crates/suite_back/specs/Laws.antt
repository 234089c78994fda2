-- A suite is what its text shows.
use Rattle.std.specs.Prelude.{◌≡◌, ◌^◌, Bool, true, nat_lt, length, Ok}
use Rattle.std.specs.List.{list_all}
use Rattle.py_plain.specs.Program.{Program}
use Rattle.suite_model.specs.declared.suite.Suite.{Suite}
use Rattle.suite_model.specs.declared.suite.TestCase.{TestCase}
use Rattle.suite_file.specs.declared.file.SuiteFile.{SuiteFile}
use Rattle.suite_file.specs.SuiteOf.{suite_of}
use Rattle.suite_text.specs.Printable.{is_printable}
use Rattle.name_laws.specs.Laws.{NamesAreFound}
use Rattle.suite_back.specs.Shown.{Shows}
use Rattle.suite_back.specs.Written.{written}

-- no test has more steps than numbers of variables that a reader takes
abbrev pub has_few_steps : TestCase → Bool
has_few_steps case = nat_lt (length case.test.steps) (2 ^ 31)

abbrev pub has_few : Suite → Bool
has_few suite = list_all has_few_steps suite.cases

-- A file that shows a printable suite is read as it, with its lines.
abbrev pub ShownIsRead : Type 0
ShownIsRead = (program : Program) (suite : Suite) (file : SuiteFile) → NamesAreFound program → is_printable program suite ≡ true → has_few suite ≡ true
    → Shows program suite file → suite_of program file ≡ Ok (written suite)
