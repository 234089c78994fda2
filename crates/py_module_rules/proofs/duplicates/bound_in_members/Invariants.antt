use Rattle.std.proofs.Common.{◌≡◌, take}
use Rattle.std.specs.List.{flat_map}
use Rattle.py_scopes.specs.Names.{bound_by_member}
use Rattle.py_module_rules.proofs.duplicates.bound_in_members.Given as goal

abbrev pub invariant-loop-member : goal.invariant-loop-member
invariant-loop-member l = l.bounds.items ≡ flat_map bound_by_member (take l.member-index l.members)
