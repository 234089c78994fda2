use Rattle.std.proofs.Common.{◌++◌, []}
use Rattle.std.proofs.lemmas.List.{at_drop_more}
use Rattle.goal_model.specs.Goals.{goals_from}
use Rattle.goal_graph.specs.Lines.{started}
use Rattle.goal_graph.proofs.LinesLeft.{left_next}
use Rattle.goal_graph.proofs.build.add_goals.Goals as goal

pub loop-point-preserved : goal.loop-point-preserved
loop-point-preserved c =
    let points = c.args.points.now in
    let i = c.loop-point.point-index in
    left_next (started c.loop-point.lines) _ c.loop-point.rows.items _ points i _ (c.args.rows.now.items ++ goals_from [] points) c.loop-point.invariant
    (at_drop_more (λ ys. ys) points i _ c.loop-point-test.true) c.in_ok-add_point.ensures.rows c.in_ok-add_point.ensures.lines
