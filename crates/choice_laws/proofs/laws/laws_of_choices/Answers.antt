use Rattle.chosen_tests.specs.Chosen.{can_be_written, gains}
use Rattle.choice_laws.proofs.Choosing.{each_needed, none_missing}
use Rattle.choice_laws.proofs.Minimality.{minimal}
use Rattle.choice_laws.proofs.Own.{own}
use Rattle.choice_laws.proofs.laws.laws_of_choices.Goals as goal

pub returns-clause-missing : goal.returns-clause-missing
returns-clause-missing c = λ m limit tests number. none_missing (gains m limit) (can_be_written m limit) number tests

pub returns-clause-needed : goal.returns-clause-needed
returns-clause-needed c = λ m limit tests before test after is. each_needed (gains m limit) (can_be_written m limit) tests before test after is

pub returns-clause-minimal : goal.returns-clause-minimal
returns-clause-minimal c = minimal c.laws_of_files.ensures.first

pub returns-clause-own : goal.returns-clause-own
returns-clause-own c = own c.laws_of_cases.ensures.cases
