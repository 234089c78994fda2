use Rattle.case_laws.proofs.Files.{cases_of_kept, gains, passes, themselves, trail}
use Rattle.case_laws.proofs.laws.laws_of_cases.Goals as goal

pub returns-clause-cases : goal.returns-clause-cases
returns-clause-cases c = cases_of_kept

pub returns-clause-themselves : goal.returns-clause-themselves
returns-clause-themselves c = themselves

pub returns-clause-passes : goal.returns-clause-passes
returns-clause-passes c = passes c.laws_of_abrupt_ends.ensures

pub returns-clause-trail : goal.returns-clause-trail
returns-clause-trail c = trail c.laws_of_abrupt_ends.ensures

pub returns-clause-gains : goal.returns-clause-gains
returns-clause-gains c = gains c.laws_of_abrupt_ends.ensures
