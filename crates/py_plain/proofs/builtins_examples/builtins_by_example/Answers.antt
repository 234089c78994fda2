use Rattle.py_plain.proofs.ExamplesBuiltins.{isinstance_count_0, isinstance_nested_0, isinstance_nested_after_0, isinstance_no_class_0, str_of_instance_0, str_of_key_error_0, object_called_0, method_leaves_0, method_missing_before_arguments_0, method_not_called_0}
use Rattle.py_plain.proofs.builtins_examples.builtins_by_example.Goals as goal

pub returns-clause-isinstance_count_0 : goal.returns-clause-isinstance_count_0
returns-clause-isinstance_count_0 c = isinstance_count_0.same

pub returns-clause-isinstance_nested_0 : goal.returns-clause-isinstance_nested_0
returns-clause-isinstance_nested_0 c = isinstance_nested_0.same

pub returns-clause-isinstance_nested_after_0 : goal.returns-clause-isinstance_nested_after_0
returns-clause-isinstance_nested_after_0 c = isinstance_nested_after_0.same

pub returns-clause-isinstance_no_class_0 : goal.returns-clause-isinstance_no_class_0
returns-clause-isinstance_no_class_0 c = isinstance_no_class_0.same

pub returns-clause-str_of_instance_0 : goal.returns-clause-str_of_instance_0
returns-clause-str_of_instance_0 c = str_of_instance_0.same

pub returns-clause-str_of_key_error_0 : goal.returns-clause-str_of_key_error_0
returns-clause-str_of_key_error_0 c = str_of_key_error_0.same

pub returns-clause-object_called_0 : goal.returns-clause-object_called_0
returns-clause-object_called_0 c = object_called_0.same

pub returns-clause-method_leaves_0 : goal.returns-clause-method_leaves_0
returns-clause-method_leaves_0 c = method_leaves_0.same

pub returns-clause-method_missing_before_arguments_0 : goal.returns-clause-method_missing_before_arguments_0
returns-clause-method_missing_before_arguments_0 c = method_missing_before_arguments_0.same

pub returns-clause-method_not_called_0 : goal.returns-clause-method_not_called_0
returns-clause-method_not_called_0 c = method_not_called_0.same
