use Rattle.std.proofs.Common.{arith, length}
use Rattle.std.proofs.lemmas.List.{take_more}
use Rattle.goal_graph.proofs.Families.{lists_next}
use Rattle.goal_graph.proofs.children.children_of.Goals as goal

pub loop-parent-preserved : goal.loop-parent-preserved
loop-parent-preserved c =
    let parents = c.args.parents.now in
    let i = c.loop-parent.parent-index in
    record {
      lists = lists_next _ _ (length parents) parents i c.loop-parent.number _ c.loop-parent.invariant.lists c.loop-parent-test.true c.loop-parent.invariant.at c.in_ok-add_parent.ensures (take_more parents i _ c.loop-parent-test.true);
      at = omega arith;
    }
