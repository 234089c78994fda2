use Rattle.std.proofs.Common.{refl}
use Rattle.py_meaning.specs.Equal.{equal, equal_pair}
use Rattle.py_meaning.specs.Folds.{levels, views, as_keys}
use Rattle.running_examples.proofs.views.view_examples.Goals as goal

pub returns-clause-a_list_grows_by_it : goal.returns-clause-a_list_grows_by_it
unfolding equal equal_pair
returns-clause-a_list_grows_by_it c = simp (levels, views)

pub returns-clause-it_is_no_operand_of_a_sum : goal.returns-clause-it_is_no_operand_of_a_sum
unfolding equal equal_pair
returns-clause-it_is_no_operand_of_a_sum c = simp (levels, views)

pub returns-clause-a_display_holds_it : goal.returns-clause-a_display_holds_it
returns-clause-a_display_holds_it c = refl

pub returns-clause-a_list_stores_it : goal.returns-clause-a_list_stores_it
unfolding equal equal_pair
returns-clause-a_list_stores_it c = simp (levels, views)

pub returns-clause-it_is_no_index : goal.returns-clause-it_is_no_index
unfolding equal equal_pair
returns-clause-it_is_no_index c = simp (levels, views)

pub returns-clause-nothing_is_stored_in_it : goal.returns-clause-nothing_is_stored_in_it
unfolding equal equal_pair
returns-clause-nothing_is_stored_in_it c = simp (levels, views)

pub returns-clause-it_is_looked_for_nowhere : goal.returns-clause-it_is_looked_for_nowhere
unfolding equal equal_pair
returns-clause-it_is_looked_for_nowhere c = simp (levels, views)

pub returns-clause-another_value_is_looked_for_beside_it : goal.returns-clause-another_value_is_looked_for_beside_it
unfolding equal equal_pair
returns-clause-another_value_is_looked_for_beside_it c = simp (levels, views)

pub returns-clause-it_is_not_none : goal.returns-clause-it_is_not_none
unfolding equal equal_pair
returns-clause-it_is_not_none c = simp (levels, views)

pub returns-clause-it_is_no_number : goal.returns-clause-it_is_no_number
unfolding equal equal_pair
returns-clause-it_is_no_number c = simp (levels, views)

pub returns-clause-two_have_no_identity : goal.returns-clause-two_have_no_identity
unfolding equal equal_pair
returns-clause-two_have_no_identity c = simp (levels, views)

pub returns-clause-two_are_not_compared : goal.returns-clause-two_are_not_compared
unfolding equal equal_pair
returns-clause-two_are_not_compared c = simp (levels, views)

pub returns-clause-it_is_no_key : goal.returns-clause-it_is_no_key
unfolding equal equal_pair
returns-clause-it_is_no_key c = simp (levels, views)

pub returns-clause-it_is_no_key_to_look_for : goal.returns-clause-it_is_no_key_to_look_for
unfolding equal equal_pair
returns-clause-it_is_no_key_to_look_for c = simp (levels, views)

pub returns-clause-a_key_that_holds_it_is_paid_for : goal.returns-clause-a_key_that_holds_it_is_paid_for
unfolding equal equal_pair
returns-clause-a_key_that_holds_it_is_paid_for c = simp (levels, views)

pub returns-clause-a_key_of_a_display_is_paid_for : goal.returns-clause-a_key_of_a_display_is_paid_for
unfolding equal equal_pair
returns-clause-a_key_of_a_display_is_paid_for c = simp (levels, views)

pub returns-clause-a_key_of_get_is_paid_for : goal.returns-clause-a_key_of_get_is_paid_for
unfolding equal equal_pair
returns-clause-a_key_of_get_is_paid_for c = simp (levels, views)

pub returns-clause-it_comes_before_a_format : goal.returns-clause-it_comes_before_a_format
unfolding equal equal_pair
returns-clause-it_comes_before_a_format c = simp (levels, views)

pub returns-clause-it_comes_before_a_class : goal.returns-clause-it_comes_before_a_class
unfolding equal equal_pair
returns-clause-it_comes_before_a_class c = simp (levels, views)

pub returns-clause-a_list_before_it_decides : goal.returns-clause-a_list_before_it_decides
unfolding equal equal_pair
returns-clause-a_list_before_it_decides c = simp (levels, views)

pub returns-clause-it_before_a_list_decides : goal.returns-clause-it_before_a_list_decides
unfolding equal equal_pair
returns-clause-it_before_a_list_decides c = simp (levels, views)
