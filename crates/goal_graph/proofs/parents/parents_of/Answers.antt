use Rattle.std.proofs.Common.{map, ap, ◌∙◌}
use Rattle.std.proofs.lemmas.List.{take_all}
use Rattle.goal_graph.specs.Numbers.{governor_id}
use Rattle.goal_graph.proofs.FirstNumbers.{parents_found}
use Rattle.goal_graph.proofs.parents.parents_of.Goals as goal

pub returns : goal.returns
returns c =
    let rows = c.args.rows.now in
    c.loop-row.invariant
    ∙ ap (λ rs. map (λ row. governor_id c.args.count c.args.numbers.now row.parent) rs) (take_all c.loop-row.row-index rows c.loop-row-test.false)
    ∙ parents_found rows c.args.count c.args.numbers.now c.requires.count c.requires.numbers
