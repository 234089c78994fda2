use Rattle.std.proofs.Common.{rules, sym, subst, ap, ◌∙◌}
use Rattle.goal_graph.specs.Graph.{parent_ids, nodes_of}
use Rattle.goal_graph.proofs.Chains.{Earlier}
use Rattle.goal_graph.proofs.Families.{children_kept}
use Rattle.goal_graph.proofs.Governed.{parents_are_earlier}
use Rattle.goal_graph.proofs.goals.Goals.of.Goals as goal

pub invariant_of-result : goal.invariant_of-result
invariant_of-result c =
    let rows = c.in_ok-rows.rows.items in
    let parents_are = c.in_ok-parents.ensures ∙ ap parent_ids c.as_slice-2.ensures.value in
    record {
      small = search rules;
      parents_are = parents_are;
      children_are = children_kept rows c.in_ok-children.children.items c.as_slice-3.result.now (c.as_slice-3.ensures.value ∙ parents_are) c.in_ok-children.ensures;
      earlier = subst Earlier (sym c.in_ok-rows.ensures) (λ k p. parents_are_earlier c.args.tree.now k p);
      nodes_are = c.in_ok-nodes.ensures ∙ c.node_bound.ensures ∙ ap nodes_of c.as_slice-4.ensures.value;
    }
