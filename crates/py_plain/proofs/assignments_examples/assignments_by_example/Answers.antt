use Rattle.py_plain.proofs.ExamplesAssignments.{aliasing_0, aliasing_1, tuple_too_many_0, tuple_too_few_0, value_before_target_0, augment_item_once_0, augment_list_in_tuple_0, augment_unbound_0}
use Rattle.py_plain.proofs.assignments_examples.assignments_by_example.Goals as goal

pub returns-clause-aliasing_0 : goal.returns-clause-aliasing_0
returns-clause-aliasing_0 c = aliasing_0.same

pub returns-clause-aliasing_1 : goal.returns-clause-aliasing_1
returns-clause-aliasing_1 c = aliasing_1.same

pub returns-clause-tuple_too_many_0 : goal.returns-clause-tuple_too_many_0
returns-clause-tuple_too_many_0 c = tuple_too_many_0.same

pub returns-clause-tuple_too_few_0 : goal.returns-clause-tuple_too_few_0
returns-clause-tuple_too_few_0 c = tuple_too_few_0.same

pub returns-clause-value_before_target_0 : goal.returns-clause-value_before_target_0
returns-clause-value_before_target_0 c = value_before_target_0.same

pub returns-clause-augment_item_once_0 : goal.returns-clause-augment_item_once_0
returns-clause-augment_item_once_0 c = augment_item_once_0.same

pub returns-clause-augment_list_in_tuple_0 : goal.returns-clause-augment_list_in_tuple_0
returns-clause-augment_list_in_tuple_0 c = augment_list_in_tuple_0.same

pub returns-clause-augment_unbound_0 : goal.returns-clause-augment_unbound_0
returns-clause-augment_unbound_0 c = augment_unbound_0.same
