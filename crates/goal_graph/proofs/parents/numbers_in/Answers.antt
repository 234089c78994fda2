use Rattle.std.proofs.Common.{true, cond, take, get_or, sym, ap, ◌∙◌}
use Rattle.std.proofs.lemmas.List.{take_more}
use Rattle.std.specs.BTreeSet as tree
use Rattle.std.specs.Ordering.{nat_cmp}
use Rattle.std.specs.Prelude.{◌==◌}
use Rattle.goal_graph.specs.Targets.{is_in}
use Rattle.goal_graph.proofs.FirstNumbers.{in_more}
use Rattle.goal_graph.proofs.Tests.{compared}
use Rattle.goal_graph.proofs.parents.numbers_in.Goals as goal

pub loop-number-preserved : goal.loop-number-preserved
loop-number-preserved c q =
    let covered = c.args.covered.now in
    let i = c.loop-number.number-index in
    let key = get_or covered i 0 in
    c.in_ok-insert.ensures.updates.0 q
    ∙ ap (λ b. cond b true (tree.contains nat_cmp c.loop-number.set q)) (compared key q)
    ∙ ap (λ b. cond (key == q) true b) (c.loop-number.invariant q)
    ∙ sym (in_more (take i covered) key q)
    ∙ ap (λ xs. is_in xs q) (sym (take_more covered i 0 c.loop-number-test.true))
