use Rattle.printing_laws.proofs.ByExample.{fifty_are_few, fifty_one_are_many, function_has_few}
use Rattle.printing_laws.proofs.examples.brackets_by_example.Goals as goal

pub returns-clause-function : goal.returns-clause-function
returns-clause-function c = function_has_few

pub returns-clause-fifty : goal.returns-clause-fifty
returns-clause-fifty c = fifty_are_few

pub returns-clause-fifty_one : goal.returns-clause-fifty_one
returns-clause-fifty_one c = fifty_one_are_many
