use Rattle.std.proofs.Common.{◌≡◌, subst, ap, ◌∙◌}
use Rattle.std.specs.Prelude.{IfOk}
use Rattle.goal_model.specs.Parents.{targets}
use Rattle.goal_graph.specs.Targets.{targets_by}
use Rattle.goal_graph.proofs.Chains.{targets_kept}
use Rattle.goal_graph.proofs.goals.Goals.targets.Goals as goal

pub returns : goal.returns
returns c =
    let parents = c.as_slice.result.now in
    let covered = c.args.covered.now in
    let found = ap (λ cs. targets_by cs 0 parents) c.as_slice-2.ensures
    ∙ targets_kept c.self.inside.rows.items covered parents (c.as_slice.ensures.value ∙ c.self.invariant.parents_are)
    ∙ ap (λ goals. targets goals covered) c.self.view_is in
    subst (λ xs. IfOk c.targets_of.result (λ ids. ids ≡ xs)) found c.targets_of.ensures
