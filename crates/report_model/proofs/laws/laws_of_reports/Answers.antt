use Rattle.report_model.proofs.ReadLaws.{report_again, report_takes}
use Rattle.report_model.proofs.laws.laws_of_reports.Goals as goal

pub returns-clause-reads_back : goal.returns-clause-reads_back
returns-clause-reads_back c = report_again

pub returns-clause-spelled : goal.returns-clause-spelled
returns-clause-spelled c = report_takes
