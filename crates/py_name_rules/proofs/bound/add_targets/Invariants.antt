use Rattle.std.proofs.Common.{◌≡◌, ◌++◌, drop}
use Rattle.std.specs.List.{filter_map}
use Rattle.py_names.specs.Bound.{target_name}
use Rattle.py_name_rules.proofs.bound.add_targets.Given as goal

abbrev pub invariant-loop-target : goal.invariant-loop-target
invariant-loop-target l = l.names ++ filter_map target_name (drop l.target-index l.targets) ≡ l.fn.names ++ filter_map target_name l.targets
