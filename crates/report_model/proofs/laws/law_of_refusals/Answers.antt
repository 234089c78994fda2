use Rattle.report_model.proofs.RefusalLaws.{refuses_first}
use Rattle.report_model.proofs.laws.law_of_refusals.Goals as goal

pub returns : goal.returns
returns c = record { refuses_first = refuses_first }
