use Rattle.std.proofs.Common.{◌≡◌, ◌++◌, drop}
use Rattle.std.specs.List.{flat_map}
use Rattle.py_scopes.specs.ModuleRows.{functions_in_member}
use Rattle.py_module_rules.proofs.functions.Functions.add_members.Given as goal

abbrev pub invariant-loop-member : goal.invariant-loop-member
invariant-loop-member l = l.self ++ flat_map functions_in_member (drop l.member-index l.members) ≡ l.fn.self ++ flat_map functions_in_member l.members
