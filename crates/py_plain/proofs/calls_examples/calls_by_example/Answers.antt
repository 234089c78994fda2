use Rattle.py_plain.proofs.ExamplesCalls.{call_depth_0, too_many_0, not_callable_with_names_0, callee_first_0, keyword_of_builtin_0, function_attribute_0, raised_and_on_0, raised_and_on_1, out_of_steps_before_function_0, out_of_steps_in_call_0}
use Rattle.py_plain.proofs.calls_examples.calls_by_example.Goals as goal

pub returns-clause-too_many_0 : goal.returns-clause-too_many_0
returns-clause-too_many_0 c = too_many_0.same

pub returns-clause-not_callable_with_names_0 : goal.returns-clause-not_callable_with_names_0
returns-clause-not_callable_with_names_0 c = not_callable_with_names_0.same

pub returns-clause-callee_first_0 : goal.returns-clause-callee_first_0
returns-clause-callee_first_0 c = callee_first_0.same

pub returns-clause-keyword_of_builtin_0 : goal.returns-clause-keyword_of_builtin_0
returns-clause-keyword_of_builtin_0 c = keyword_of_builtin_0.same

pub returns-clause-function_attribute_0 : goal.returns-clause-function_attribute_0
returns-clause-function_attribute_0 c = function_attribute_0.same

pub returns-clause-raised_and_on_0 : goal.returns-clause-raised_and_on_0
returns-clause-raised_and_on_0 c = raised_and_on_0.same

pub returns-clause-raised_and_on_1 : goal.returns-clause-raised_and_on_1
returns-clause-raised_and_on_1 c = raised_and_on_1.same

pub returns-clause-out_of_steps_before_function_0 : goal.returns-clause-out_of_steps_before_function_0
returns-clause-out_of_steps_before_function_0 c = out_of_steps_before_function_0.same

pub returns-clause-out_of_steps_in_call_0 : goal.returns-clause-out_of_steps_in_call_0
returns-clause-out_of_steps_in_call_0 c = out_of_steps_in_call_0.same

pub returns-clause-call_depth_0 : goal.returns-clause-call_depth_0
returns-clause-call_depth_0 c = call_depth_0.same
