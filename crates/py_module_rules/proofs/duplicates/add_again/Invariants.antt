use Rattle.std.proofs.Common.{◌≡◌, ◌++◌, [], drop}
use Rattle.py_scopes.specs.ModuleRows.{bound_again}
use Rattle.py_module_rules.proofs.duplicates.add_again.Given as goal

abbrev pub invariant-loop-bound : goal.invariant-loop-bound
invariant-loop-bound l = l.lines ++ bound_again l.names (drop l.bound-index l.bounds) ≡ l.fn.lines ++ bound_again [] l.bounds
