use Rattle.std.proofs.Common.{◌++◌, reverse, sym, subst, ap, ap₂, ◌∙◌}
use Rattle.goal_graph.specs.Graph.{parent_ids}
use Rattle.goal_graph.proofs.Chains.{Earlier, chain_to, parent_kept, up_step}
use Rattle.goal_graph.proofs.goals.Goals.up_from.Goals as goal

pub loop-next-preserved : goal.loop-next-preserved
loop-next-preserved c =
    let goals = c.args.self.now in
    let number = c.in-Some.number in
    let up = c.loop-next.up.items in
    let earlier : Earlier goals = subst Earlier c.self.view_is c.self.invariant.earlier in
    let kept = c.parent_in-next.ensures ∙ parent_kept goals number c.as_slice.result.now (c.as_slice.ensures.value ∙ c.self.invariant.parents_are ∙ ap parent_ids c.self.view_is) in
    ap₂ (λ p xs. chain_to goals p ++ reverse xs) kept c.in_ok-push.ensures.items
    ∙ up_step goals number up earlier
    ∙ sym (ap (λ n. chain_to goals n ++ reverse up) c.in-Some.is)
    ∙ c.loop-next.invariant
