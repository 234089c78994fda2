use Rattle.std.proofs.Common.{refl}
use Rattle.py_meaning.specs.Texts.{pieces}
use Rattle.py_meaning.specs.Less.{ordered}
use Rattle.py_meaning.specs.Equal.{equal}
use Rattle.py_meaning.specs.Folds.{levels, views, as_keys}
use Rattle.running_examples.proofs.costs.cost_examples.Goals as goal

pub returns-clause-all_keys_of_a_display_are_paid_for : goal.returns-clause-all_keys_of_a_display_are_paid_for
unfolding ordered equal
returns-clause-all_keys_of_a_display_are_paid_for c = simp (levels, views)

pub returns-clause-a_wrong_argument_has_no_length : goal.returns-clause-a_wrong_argument_has_no_length
unfolding ordered equal
returns-clause-a_wrong_argument_has_no_length c = simp (levels, views)

pub returns-clause-a_missing_argument_costs_nothing : goal.returns-clause-a_missing_argument_costs_nothing
returns-clause-a_missing_argument_costs_nothing c = refl

pub returns-clause-a_further_argument_costs_nothing : goal.returns-clause-a_further_argument_costs_nothing
returns-clause-a_further_argument_costs_nothing c = refl

pub returns-clause-least_of_its_arguments : goal.returns-clause-least_of_its_arguments
unfolding ordered equal
returns-clause-least_of_its_arguments c = simp (levels, views)

pub returns-clause-a_list_is_paid_for_before_a_wrong_index : goal.returns-clause-a_list_is_paid_for_before_a_wrong_index
unfolding ordered equal
returns-clause-a_list_is_paid_for_before_a_wrong_index c = simp (levels, views)

pub returns-clause-a_list_is_paid_for_before_too_great_an_index : goal.returns-clause-a_list_is_paid_for_before_too_great_an_index
unfolding ordered equal
returns-clause-a_list_is_paid_for_before_too_great_an_index c = simp (levels, views)

pub returns-clause-an_insertion_is_paid_for_before_its_index : goal.returns-clause-an_insertion_is_paid_for_before_its_index
unfolding ordered equal
returns-clause-an_insertion_is_paid_for_before_its_index c = simp (levels, views)

pub returns-clause-too_deep_a_display_costs_nothing : goal.returns-clause-too_deep_a_display_costs_nothing
unfolding ordered equal
returns-clause-too_deep_a_display_costs_nothing c = simp (levels, views)

pub returns-clause-too_deep_a_tuple_costs_nothing : goal.returns-clause-too_deep_a_tuple_costs_nothing
unfolding ordered equal
returns-clause-too_deep_a_tuple_costs_nothing c = simp (levels, views)

pub returns-clause-too_deep_an_item_costs_nothing : goal.returns-clause-too_deep_an_item_costs_nothing
unfolding ordered equal
returns-clause-too_deep_an_item_costs_nothing c = simp (levels, views)

pub returns-clause-elements_are_taken_before_an_item_is_too_deep : goal.returns-clause-elements_are_taken_before_an_item_is_too_deep
unfolding ordered equal
returns-clause-elements_are_taken_before_an_item_is_too_deep c = simp (levels, views)

pub returns-clause-a_list_grows_by_no_item_too_deep : goal.returns-clause-a_list_grows_by_no_item_too_deep
unfolding ordered equal
returns-clause-a_list_grows_by_no_item_too_deep c = simp (levels, views)

pub returns-clause-no_text_among_those_to_join : goal.returns-clause-no_text_among_those_to_join
unfolding ordered equal
returns-clause-no_text_among_those_to_join c = simp (levels, views)

pub returns-clause-a_wrong_kind_before_the_machines_size : goal.returns-clause-a_wrong_kind_before_the_machines_size
unfolding ordered equal
returns-clause-a_wrong_kind_before_the_machines_size c = simp (levels, views)

pub returns-clause-the_machines_size_before_no_step : goal.returns-clause-the_machines_size_before_no_step
unfolding ordered equal
returns-clause-the_machines_size_before_no_step c = simp (levels, views)

pub returns-clause-no_sum_onto_a_text : goal.returns-clause-no_sum_onto_a_text
unfolding ordered equal
returns-clause-no_sum_onto_a_text c = simp (levels, views)

pub returns-clause-a_copy_has_its_own_changes : goal.returns-clause-a_copy_has_its_own_changes
returns-clause-a_copy_has_its_own_changes c = refl
