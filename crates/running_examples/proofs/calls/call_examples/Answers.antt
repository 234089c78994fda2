use Rattle.std.proofs.Common.{refl}
use Rattle.py_meaning.specs.Folds.{views}
use Rattle.running_examples.proofs.calls.call_examples.Goals as goal

pub returns-clause-a_name_before_the_number : goal.returns-clause-a_name_before_the_number
returns-clause-a_name_before_the_number c = refl

pub returns-clause-a_name_before_object : goal.returns-clause-a_name_before_object
returns-clause-a_name_before_object c = simp views

pub returns-clause-a_name_before_too_deep_arguments : goal.returns-clause-a_name_before_too_deep_arguments
returns-clause-a_name_before_too_deep_arguments c = simp views

pub returns-clause-no_callee_takes_a_name : goal.returns-clause-no_callee_takes_a_name
returns-clause-no_callee_takes_a_name c = simp views

pub returns-clause-an_inherited_init_takes_a_name : goal.returns-clause-an_inherited_init_takes_a_name
returns-clause-an_inherited_init_takes_a_name c = simp views

pub returns-clause-too_deep_arguments_make_no_instance : goal.returns-clause-too_deep_arguments_make_no_instance
returns-clause-too_deep_arguments_make_no_instance c = simp views

pub returns-clause-the_init_of_object_takes_none : goal.returns-clause-the_init_of_object_takes_none
returns-clause-the_init_of_object_takes_none c = refl

pub returns-clause-the_init_of_an_exception_leaves : goal.returns-clause-the_init_of_an_exception_leaves
returns-clause-the_init_of_an_exception_leaves c = refl

pub returns-clause-a_function_of_a_class_has_no_instance : goal.returns-clause-a_function_of_a_class_has_no_instance
returns-clause-a_function_of_a_class_has_no_instance c = refl
