use Rattle.std.proofs.Common.{◌≡◌, ◌++◌, drop}
use Rattle.pyn_model.specs.Report.{tests_text}
use Rattle.first_report.proofs.write.write_tests.Given as goal

abbrev pub invariant-loop-number : goal.invariant-loop-number
invariant-loop-number l = l.text ++ tests_text l.number (drop l.number l.tests) ≡ l.fn.text ++ tests_text 0 l.tests
