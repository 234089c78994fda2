use Rattle.std.proofs.Common.{◌<◌, sym, subst, ◌∙◌}
use Rattle.std.specs.Prelude.{IfSome}
use Rattle.goal_graph.proofs.Chains.{parent_kept, parent_earlier}
use Rattle.goal_graph.proofs.goals.GoalsChains.parent.Goals as goal

pub returns-clause-earlier : goal.returns-clause-earlier
returns-clause-earlier c =
    let goals = c.self.inside.rows.items in
    let kept = c.parent_in.ensures ∙ parent_kept goals c.args.goal c.as_slice.result.now (c.as_slice.ensures.value ∙ c.self.invariant.parents_are) in
    subst (λ o. IfSome o (λ parent. parent.0 < c.args.goal.0)) (sym kept) (parent_earlier goals c.args.goal c.self.invariant.earlier)
