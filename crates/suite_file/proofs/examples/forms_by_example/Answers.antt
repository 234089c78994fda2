use Rattle.std.specs.Fmt.{digits}
use Rattle.suite_file.proofs.Levels.{levels}
use Rattle.suite_file.proofs.examples.forms_by_example.Goals as goal

pub returns-clause-steps : goal.returns-clause-steps
unfolding digits
returns-clause-steps c = simp levels

pub returns-clause-assertions : goal.returns-clause-assertions
unfolding digits
returns-clause-assertions c = simp levels

pub returns-clause-others : goal.returns-clause-others
unfolding digits
returns-clause-others c = simp levels
