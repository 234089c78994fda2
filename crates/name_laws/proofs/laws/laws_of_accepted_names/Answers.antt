use Rattle.name_laws.proofs.AcceptedModules.{names_found}
use Rattle.name_laws.proofs.laws.laws_of_accepted_names.Goals as goal

pub returns : goal.returns
returns c = record { found = names_found }
