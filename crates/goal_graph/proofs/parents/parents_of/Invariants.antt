use Rattle.std.proofs.Common.{◌≡◌, take}
use Rattle.goal_graph.specs.Numbers.{governor_id}
use Rattle.std.proofs.Common.{map}
use Rattle.goal_graph.proofs.parents.parents_of.Given as goal

abbrev pub invariant-loop-row : goal.invariant-loop-row
invariant-loop-row l = l.parents.items ≡ map (λ row. governor_id l.count l.numbers row.parent) (take l.row-index l.rows)
