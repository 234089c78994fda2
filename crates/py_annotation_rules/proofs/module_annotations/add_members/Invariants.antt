use Rattle.std.proofs.Common.{◌≡◌, ◌++◌, take}
use Rattle.std.specs.List.{flat_map}
use Rattle.py_scopes.specs.ModuleRows.{in_member}
use Rattle.py_annotation_rules.proofs.module_annotations.add_members.Given as goal

abbrev pub invariant-loop-member : goal.invariant-loop-member
invariant-loop-member l = l.lines ≡ l.fn.lines ++ flat_map (in_member l.scope.whole l.scope.front) (take l.member-index l.members)
