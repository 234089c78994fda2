use Rattle.std.proofs.Common.{ℕ, ◌++◌, sym, ◌∙◌}
use Rattle.std.proofs.lemmas.List.{append-nil, at_drop_all}
use Rattle.std.specs.BTreeSet as tree
use Rattle.std.specs.Ordering.{nat_cmp}
use Rattle.goal_graph.specs.Targets.{targets_from_parents}
use Rattle.goal_graph.proofs.Chains.{targets_same}
use Rattle.goal_graph.proofs.parents.targets_of.Goals as goal

pub returns : goal.returns
returns c =
    let f = λ (q : ℕ). tree.contains nat_cmp c.in_ok-set.set q in
    let ids = c.loop-parent.ids in
    let parents = c.args.parents.now in
    sym (append-nil ids)
    ∙ sym (at_drop_all (λ ys. ids ++ targets_from_parents f c.loop-parent.number ys) parents c.loop-parent.parent-index c.loop-parent-test.false)
    ∙ c.loop-parent.invariant.ids ∙ targets_same f c.args.covered.now c.in_ok-set.ensures 0 parents
