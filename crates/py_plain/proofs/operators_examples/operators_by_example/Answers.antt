use Rattle.py_plain.proofs.ExamplesOperators.{dict_keeps_place_0, dict_unhashable_0, list_runs_out_0, integer_range_0, zero_division_0, string_format_0, identity_0, subscript_of_class_0, view_operand_0}
use Rattle.py_plain.proofs.operators_examples.operators_by_example.Goals as goal

pub returns-clause-dict_keeps_place_0 : goal.returns-clause-dict_keeps_place_0
returns-clause-dict_keeps_place_0 c = dict_keeps_place_0.same

pub returns-clause-dict_unhashable_0 : goal.returns-clause-dict_unhashable_0
returns-clause-dict_unhashable_0 c = dict_unhashable_0.same

pub returns-clause-list_runs_out_0 : goal.returns-clause-list_runs_out_0
returns-clause-list_runs_out_0 c = list_runs_out_0.same

pub returns-clause-integer_range_0 : goal.returns-clause-integer_range_0
returns-clause-integer_range_0 c = integer_range_0.same

pub returns-clause-zero_division_0 : goal.returns-clause-zero_division_0
returns-clause-zero_division_0 c = zero_division_0.same

pub returns-clause-string_format_0 : goal.returns-clause-string_format_0
returns-clause-string_format_0 c = string_format_0.same

pub returns-clause-identity_0 : goal.returns-clause-identity_0
returns-clause-identity_0 c = identity_0.same

pub returns-clause-subscript_of_class_0 : goal.returns-clause-subscript_of_class_0
returns-clause-subscript_of_class_0 c = subscript_of_class_0.same

pub returns-clause-view_operand_0 : goal.returns-clause-view_operand_0
returns-clause-view_operand_0 c = view_operand_0.same
