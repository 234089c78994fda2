use Rattle.goal_laws.proofs.Goals.{governors_come_first}
use Rattle.goal_laws.proofs.laws.laws_of_governors.Goals as goal

pub returns : goal.returns
returns c = record { first = governors_come_first c.laws_of_nodes.ensures.level c.laws_of_numbered.ensures.ascend }
