use Rattle.goal_laws.proofs.Goals.{tests_take_parents}
use Rattle.goal_laws.proofs.ReadModules.{read_tests}
use Rattle.goal_laws.proofs.laws.laws_of_taken_goals.Goals as goal

pub returns-clause-tests : goal.returns-clause-tests
returns-clause-tests c = tests_take_parents c.laws_of_nodes.ensures.level c.laws_of_numbered.ensures.ascend

pub returns-clause-read : goal.returns-clause-read
returns-clause-read c =
    read_tests c.laws_of_lines.ensures.plain c.laws_of_numbering.ensures.dense (tests_take_parents c.laws_of_nodes.ensures.level c.laws_of_numbered.ensures.ascend)
