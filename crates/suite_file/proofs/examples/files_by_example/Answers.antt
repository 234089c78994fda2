use Rattle.std.specs.Fmt.{digits}
use Rattle.suite_file.proofs.Levels.{levels}
use Rattle.suite_file.proofs.examples.files_by_example.Goals as goal

pub returns-clause-read : goal.returns-clause-read
unfolding digits
returns-clause-read c = simp levels

pub returns-clause-headers : goal.returns-clause-headers
unfolding digits
returns-clause-headers c = simp levels

pub returns-clause-lines : goal.returns-clause-lines
unfolding digits
returns-clause-lines c = simp levels

pub returns-clause-forms : goal.returns-clause-forms
unfolding digits
returns-clause-forms c = simp levels

pub returns-clause-unknown : goal.returns-clause-unknown
unfolding digits
returns-clause-unknown c = simp levels

pub returns-clause-earliest : goal.returns-clause-earliest
unfolding digits
returns-clause-earliest c = simp levels
