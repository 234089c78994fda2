use Rattle.case_laws.proofs.Files.{file, first_to_gain, own_report}
use Rattle.case_laws.proofs.laws.laws_of_files.Goals as goal

pub returns-clause-file : goal.returns-clause-file
returns-clause-file c = file c.laws_of_abrupt_ends.ensures

pub returns-clause-first : goal.returns-clause-first
returns-clause-first c = first_to_gain c.laws_of_abrupt_ends.ensures

pub returns-clause-own_report : goal.returns-clause-own_report
returns-clause-own_report c = own_report c.laws_of_abrupt_ends.ensures
