use Rattle.std.proofs.Common.{◌≡◌, ◌++◌, take}
use Rattle.py_module_rules.specs.Duplicates.{bound_names}
use Rattle.py_module_rules.proofs.duplicates.add_names.Given as goal

abbrev pub invariant-loop-name : goal.invariant-loop-name
invariant-loop-name l = l.bounds.items ≡ l.fn.bounds.items ++ bound_names l.line (take l.name-index l.names)
