use Rattle.goal_laws.proofs.Goals.{runs_take_parents, kept_takes_parents}
use Rattle.goal_laws.proofs.laws.laws_of_trails.Goals as goal

pub returns-clause-runs : goal.returns-clause-runs
returns-clause-runs c = runs_take_parents c.laws_of_nodes.ensures.level c.laws_of_numbered.ensures.ascend

pub returns-clause-kept : goal.returns-clause-kept
returns-clause-kept c = kept_takes_parents c.laws_of_nodes.ensures.level c.laws_of_numbered.ensures.ascend
