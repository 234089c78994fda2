use Rattle.std.proofs.Common.{◌<◌, sym, subst, ap, ◌∙◌}
use Rattle.goal_graph.specs.Graph.{mark_at, nodes_of}
use Rattle.goal_graph.proofs.Marked.{mark_at_within}
use Rattle.goal_graph.proofs.goals.GoalsChains.mark.Goals as goal

pub returns-clause-within : goal.returns-clause-within
returns-clause-within c =
    let goals = c.args.self.now in
    let is = c.mark_at.ensures ∙ ap (mark_at c.args.goal) (c.as_slice.ensures.value ∙ c.self.view_is) in
    subst (λ mark. mark.0.0 < nodes_of goals) (sym is) (mark_at_within goals c.args.goal c.requires)
