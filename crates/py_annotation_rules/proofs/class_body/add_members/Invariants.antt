use Rattle.std.proofs.Common.{◌≡◌, ◌++◌, take}
use Rattle.std.specs.List.{flat_map}
use Rattle.py_scopes.specs.Names.{standing, class_names}
use Rattle.py_annotation_rules.specs.Found.{member_scope}
use Rattle.py_annotation_rules.proofs.class_body.add_members.Given as goal

abbrev pub invariant-loop-member : goal.invariant-loop-member
invariant-loop-member l = record {
  lines : l.lines ≡ l.fn.lines ++ flat_map (member_scope l.future) (standing (take l.member-index l.members));
  names : l.names ≡ class_names (take l.member-index l.members);
}
