use Rattle.std.proofs.Common.{ap}
use Rattle.py_scopes.specs.ModuleRows.{scope_in}
use Rattle.py_annotation_rules.specs.Found.{member_scope}
use Rattle.py_annotation_rules.proofs.Prefixes.{standing_more, members_more}
use Rattle.py_annotation_rules.proofs.class_body.add_members.Goals as goal

pub loop-member-preserved : goal.loop-member-preserved
loop-member-preserved c =
    let members = c.args.members.now in
    let i = c.loop-member.member-index in
    let x = c.member-item.result in
    record {
      lines = standing_more (member_scope c.args.future) members i x c.args.lines.now _ _ _ c.loop-member-test.true c.member-item.is c.loop-member.invariant.lines c.in_ok-add_member.ensures
          (ap (λ names. scope_in c.args.future names x) c.loop-member.invariant.names);
      names = members_more members i x _ _ c.loop-member-test.true c.member-item.is c.loop-member.invariant.names c.in_ok-add_names.ensures;
    }
