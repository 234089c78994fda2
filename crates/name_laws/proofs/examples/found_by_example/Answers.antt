use Rattle.name_laws.proofs.ByExample.{class_and_function, functions, method}
use Rattle.name_laws.proofs.examples.found_by_example.Goals as goal

pub returns-clause-method : goal.returns-clause-method
returns-clause-method c = method

pub returns-clause-functions : goal.returns-clause-functions
returns-clause-functions c = functions

pub returns-clause-class : goal.returns-clause-class
returns-clause-class c = class_and_function
