use Rattle.std.proofs.Common.{◌≡◌, drop, None, []}
use Rattle.suite_file.specs.SuiteOf.{start, after_all, entries_from}
use Rattle.suite_reader.specs.Parts.{with_entries}
use Rattle.suite_reader.proofs.cases.read_test.Given as goal

abbrev pub invariant-loop-stmt : goal.invariant-loop-stmt
invariant-loop-stmt l = record {
  parts : with_entries l.parts (entries_from l.names l.at (drop l.stmt-index l.test.body)) ≡ with_entries (record { steps = []; lines = []; raises = None; asserts = []; fault = l.fn.fault }) (entries_from l.names start l.test.body);
  at : after_all l.at (drop l.stmt-index l.test.body) ≡ after_all start l.test.body;
}
