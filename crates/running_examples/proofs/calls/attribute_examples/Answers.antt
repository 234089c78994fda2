use Rattle.std.proofs.Common.{refl}
use Rattle.py_meaning.specs.Folds.{views}
use Rattle.running_examples.proofs.calls.attribute_examples.Goals as goal

pub returns-clause-a_method_of_its_class : goal.returns-clause-a_method_of_its_class
returns-clause-a_method_of_its_class c = simp views

pub returns-clause-a_method_that_is_not_called : goal.returns-clause-a_method_that_is_not_called
returns-clause-a_method_that_is_not_called c = refl

pub returns-clause-known_arguments_above : goal.returns-clause-known_arguments_above
returns-clause-known_arguments_above c = simp views

pub returns-clause-arguments_are_not_called : goal.returns-clause-arguments_are_not_called
returns-clause-arguments_are_not_called c = simp views

pub returns-clause-unknown_arguments_above : goal.returns-clause-unknown_arguments_above
returns-clause-unknown_arguments_above c = refl

pub returns-clause-nothing_else_above : goal.returns-clause-nothing_else_above
returns-clause-nothing_else_above c = refl

pub returns-clause-its_own_mro : goal.returns-clause-its_own_mro
returns-clause-its_own_mro c = simp views

pub returns-clause-the_mro_of_an_exception : goal.returns-clause-the_mro_of_an_exception
returns-clause-the_mro_of_an_exception c = simp views

pub returns-clause-another_name_of_an_exception : goal.returns-clause-another_name_of_an_exception
returns-clause-another_name_of_an_exception c = simp views
