use Rattle.py_meaning.specs.Equal.{equal, equal_pair}
use Rattle.py_meaning.specs.Folds.{levels, views}
use Rattle.py_meaning.proofs.example_operators.operator_examples.Goals as goal

pub returns-clause-rounded_down : goal.returns-clause-rounded_down
returns-clause-rounded_down c = simp views

pub returns-clause-the_divisors_sign : goal.returns-clause-the_divisors_sign
returns-clause-the_divisors_sign c = simp views

pub returns-clause-by_nought : goal.returns-clause-by_nought
returns-clause-by_nought c = simp views

pub returns-clause-a_format : goal.returns-clause-a_format
returns-clause-a_format c = simp views

pub returns-clause-below_nought : goal.returns-clause-below_nought
returns-clause-below_nought c = simp views

pub returns-clause-count_before : goal.returns-clause-count_before
returns-clause-count_before c = simp views

pub returns-clause-too_great_a_count : goal.returns-clause-too_great_a_count
returns-clause-too_great_a_count c = simp views

pub returns-clause-negative : goal.returns-clause-negative
returns-clause-negative c = simp views

pub returns-clause-a_view_added : goal.returns-clause-a_view_added
returns-clause-a_view_added c = simp views

pub returns-clause-a_new_list : goal.returns-clause-a_new_list
returns-clause-a_new_list c = simp views

pub returns-clause-the_same_list : goal.returns-clause-the_same_list
returns-clause-the_same_list c = simp views

pub returns-clause-by_itself : goal.returns-clause-by_itself
returns-clause-by_itself c = simp views

pub returns-clause-by_a_range : goal.returns-clause-by_a_range
returns-clause-by_a_range c = simp views

pub returns-clause-true_is_true : goal.returns-clause-true_is_true
returns-clause-true_is_true c = simp views

pub returns-clause-true_is_no_integer : goal.returns-clause-true_is_no_integer
returns-clause-true_is_no_integer c = simp views

pub returns-clause-two_integers : goal.returns-clause-two_integers
returns-clause-two_integers c = simp views

pub returns-clause-one_in_two_and_true : goal.returns-clause-one_in_two_and_true
unfolding equal
returns-clause-one_in_two_and_true c = simp views

pub returns-clause-a_part_of_a_text : goal.returns-clause-a_part_of_a_text
returns-clause-a_part_of_a_text c = simp views

pub returns-clause-no_part_of_a_text : goal.returns-clause-no_part_of_a_text
returns-clause-no_part_of_a_text c = simp views

pub returns-clause-not_of_a_range : goal.returns-clause-not_of_a_range
returns-clause-not_of_a_range c = simp views

pub returns-clause-of_a_range_down : goal.returns-clause-of_a_range_down
returns-clause-of_a_range_down c = simp views

pub returns-clause-from_the_end : goal.returns-clause-from_the_end
returns-clause-from_the_end c = simp views

pub returns-clause-past_the_end : goal.returns-clause-past_the_end
returns-clause-past_the_end c = simp views

pub returns-clause-of_a_class : goal.returns-clause-of_a_class
returns-clause-of_a_class c = simp views

pub returns-clause-put_at_no_cost : goal.returns-clause-put_at_no_cost
returns-clause-put_at_no_cost c = simp views

pub returns-clause-deleted : goal.returns-clause-deleted
returns-clause-deleted c = simp views

pub returns-clause-the_last_two : goal.returns-clause-the_last_two
returns-clause-the_last_two c = simp views

pub returns-clause-clamped : goal.returns-clause-clamped
returns-clause-clamped c = simp views

pub returns-clause-the_element_at_the_left : goal.returns-clause-the_element_at_the_left
unfolding equal equal_pair
returns-clause-the_element_at_the_left c = simp (levels, views)

pub returns-clause-an_equal_dict : goal.returns-clause-an_equal_dict
unfolding equal equal_pair
returns-clause-an_equal_dict c = simp (levels, views)

pub returns-clause-a_range_is_compared : goal.returns-clause-a_range_is_compared
unfolding equal equal_pair
returns-clause-a_range_is_compared c = simp (levels, views)

pub returns-clause-an_index_that_is_no_integer : goal.returns-clause-an_index_that_is_no_integer
returns-clause-an_index_that_is_no_integer c = simp views

pub returns-clause-too_few_steps_for_the_index : goal.returns-clause-too_few_steps_for_the_index
returns-clause-too_few_steps_for_the_index c = simp views

pub returns-clause-joined_tuples : goal.returns-clause-joined_tuples
returns-clause-joined_tuples c = simp views
