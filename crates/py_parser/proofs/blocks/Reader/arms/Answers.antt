use Rattle.py_grammar.specs.Compounds.{statements}
use Rattle.py_parser.proofs.Steps.{next_arm}
use Rattle.py_parser.proofs.blocks.Reader.arms.Goals as goal

pub loop-member-preserved : goal.loop-member-preserved
loop-member-preserved g c =
    next_arm c.args.self.now.scope.place c.args.self.now.scope.room (statements c.args.self.now.scope.room) c.args.column c.args.end _ _ _ c.in-Some.ensures.members_are _ _ c.loop-member.invariant
    _ c.in_ok-form.ensures _ (c.behind.ensures.members c.args.column) _ _ _ _ c.in_ok-test.ensures c.in-Some-test.is c.in_ok-push-2.ensures.ok
