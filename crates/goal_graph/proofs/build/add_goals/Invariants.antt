use Rattle.std.proofs.Common.{◌++◌, drop}
use Rattle.goal_model.specs.Goals.{goals_from}
use Rattle.std.proofs.Common.{[]}
use Rattle.goal_graph.specs.Lines.{started}
use Rattle.goal_graph.proofs.LinesLeft.{Left}
use Rattle.goal_graph.proofs.build.add_goals.Given as goal

abbrev pub invariant-loop-point : goal.invariant-loop-point
invariant-loop-point l = Left (started l.lines) l.rows.items (drop l.point-index l.points) (l.fn.rows.items ++ goals_from [] l.points)
