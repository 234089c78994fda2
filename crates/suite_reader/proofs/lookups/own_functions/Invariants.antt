use Rattle.std.proofs.Common.{◌≡◌, ◌++◌, drop}
use Rattle.suite_file.specs.SuiteOf.{own_functions}
use Rattle.suite_reader.proofs.lookups.own_functions.Given as goal

abbrev pub invariant-loop-row : goal.invariant-loop-row
invariant-loop-row l = l.names ++ own_functions l.number (drop l.row-index l.tables.functions) ≡ own_functions 0 l.tables.functions
