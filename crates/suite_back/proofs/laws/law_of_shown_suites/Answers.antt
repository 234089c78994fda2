use Rattle.suite_back.proofs.Suites.{shown_is_read}
use Rattle.suite_back.proofs.laws.law_of_shown_suites.Goals as goal

pub returns : goal.returns
returns c = shown_is_read
