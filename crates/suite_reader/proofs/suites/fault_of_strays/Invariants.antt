use Rattle.std.proofs.Common.{◌≡◌, drop, map, None}
use Rattle.suite_file.specs.SuiteOf.{earliest, form_at}
use Rattle.suite_reader.proofs.suites.fault_of_strays.Given as goal

abbrev pub invariant-loop-line : goal.invariant-loop-line
invariant-loop-line l = earliest l.fault (map form_at (drop l.line-index l.strays)) ≡ earliest None (map form_at l.strays)
