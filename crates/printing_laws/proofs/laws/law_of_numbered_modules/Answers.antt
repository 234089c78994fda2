use Rattle.printing_laws.proofs.ReadBack.{numbers_change_nothing}
use Rattle.printing_laws.proofs.laws.law_of_numbered_modules.Goals as goal

pub returns : goal.returns
returns c = numbers_change_nothing
