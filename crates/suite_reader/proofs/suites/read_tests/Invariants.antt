use Rattle.std.proofs.Common.{◌≡◌, drop, take, map}
use Rattle.suite_file.specs.SuiteOf.{case_of, fault_in_tests}
use Rattle.suite_reader.proofs.suites.read_tests.Given as goal

abbrev pub invariant-loop-test : goal.invariant-loop-test
invariant-loop-test l = record {
  cases : l.cases ≡ map (case_of l.names) (take l.test-index l.tests);
  fault : fault_in_tests l.names l.fault l.number (drop l.test-index l.tests) ≡ fault_in_tests l.names l.fn.fault 0 l.tests;
  at : l.number ≡ l.test-index;
}
