use Rattle.name_laws.proofs.ByExample.{identifiers, keyword, no_name}
use Rattle.name_laws.proofs.examples.identifiers_by_example.Goals as goal

pub returns-clause-identifiers : goal.returns-clause-identifiers
returns-clause-identifiers c = identifiers

pub returns-clause-keyword : goal.returns-clause-keyword
returns-clause-keyword c = keyword

pub returns-clause-no_name : goal.returns-clause-no_name
returns-clause-no_name c = no_name
