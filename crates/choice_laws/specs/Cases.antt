-- Chosen tests as tests of a suite, before a text gives them lines of their own.
use Rattle.std.specs.Prelude.{ℕ, List, [], length, map, replicate}
use Rattle.std.specs.Option.{option_map}
use Rattle.suite_model.specs.declared.suite.TestCase.{TestCase}
use Rattle.chosen_tests.specs.declared.chosen.Chosen.{Chosen}

-- all of it on one line: its `def`, its steps, and the `with` where the last one raises; nothing is asserted
abbrev pub case_on : ℕ → Chosen → TestCase
case_on line chosen =
    record {
      line = line;
      test = chosen.test;
      lines = replicate (length chosen.test.steps) line;
      raises = option_map (λ class. (line, class)) chosen.raises;
      asserts = [];
    }

abbrev pub cases_on : ℕ → List Chosen → List TestCase
cases_on line tests = map (case_on line) tests
