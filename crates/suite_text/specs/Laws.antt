-- The text of a printable suite is its lines of tokens.
use Rattle.std.specs.Prelude.{◌≡◌, true, None, encode_utf8_all}
use Rattle.py_language.specs.Tokens.{tokens_of}
use Rattle.py_plain.specs.Program.{Program}
use Rattle.py_printer.specs.Lines.{logicals}
use Rattle.suite_model.specs.declared.suite.Suite.{Suite}
use Rattle.suite_text.specs.Printable.{is_printable}
use Rattle.suite_text.specs.Spelled.{is_spelled}
use Rattle.suite_text.specs.SuiteText.{suite_lines, suite_text}

-- as UTF-8 it has exactly the logical lines of the suite's lines, each with its number, and no fault
abbrev pub SuitesAreLines : Type 0
SuitesAreLines = (program : Program) (suite : Suite) → is_printable program suite ≡ true → is_spelled suite ≡ true
    → tokens_of (encode_utf8_all (suite_text program suite)) ≡ record { lines = logicals 1 (suite_lines program suite); fault = None }
