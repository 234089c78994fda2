use Rattle.name_laws.proofs.ReadModules.{names_are_identifiers}
use Rattle.name_laws.proofs.laws.laws_of_read_names.Goals as goal

pub returns : goal.returns
returns c = record { identifiers = names_are_identifiers c.laws_of_spelling.ensures.sound }
