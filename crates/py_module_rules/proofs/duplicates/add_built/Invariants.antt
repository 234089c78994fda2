use Rattle.std.proofs.Common.{◌≡◌, ◌++◌, take}
use Rattle.std.specs.List.{flat_map}
use Rattle.py_scopes.specs.ModuleRows.{bound_built}
use Rattle.py_module_rules.proofs.duplicates.add_built.Given as goal

abbrev pub invariant-loop-bound : goal.invariant-loop-bound
invariant-loop-bound l = l.lines ≡ l.fn.lines ++ flat_map bound_built (take l.bound-index l.bounds)
