use Rattle.py_meaning.specs.Equal.{equal, equal_pair}
use Rattle.py_meaning.specs.Less.{ordered}
use Rattle.py_meaning.specs.Folds.{levels, views}
use Rattle.running_examples.proofs.comparisons.comparison_examples.Goals as goal

pub returns-clause-the_first_with_the_second : goal.returns-clause-the_first_with_the_second
unfolding equal equal_pair ordered
returns-clause-the_first_with_the_second c = simp (levels, views)

pub returns-clause-the_second_with_the_first : goal.returns-clause-the_second_with_the_first
unfolding equal equal_pair ordered
returns-clause-the_second_with_the_first c = simp (levels, views)

pub returns-clause-a_greater_list_is_compared_as_it_stands : goal.returns-clause-a_greater_list_is_compared_as_it_stands
unfolding equal equal_pair ordered
returns-clause-a_greater_list_is_compared_as_it_stands c = simp (levels, views)

pub returns-clause-the_greatest_so_far_is_at_the_left : goal.returns-clause-the_greatest_so_far_is_at_the_left
unfolding equal equal_pair ordered
returns-clause-the_greatest_so_far_is_at_the_left c = simp (levels, views)

pub returns-clause-the_least_so_far_is_at_the_right : goal.returns-clause-the_least_so_far_is_at_the_right
unfolding equal equal_pair ordered
returns-clause-the_least_so_far_is_at_the_right c = simp (levels, views)

pub returns-clause-other_lengths_are_unequal_at_any_level : goal.returns-clause-other_lengths_are_unequal_at_any_level
unfolding equal equal_pair ordered
returns-clause-other_lengths_are_unequal_at_any_level c = simp (levels, views)

pub returns-clause-other_lengths_have_no_order_past_the_last_level : goal.returns-clause-other_lengths_have_no_order_past_the_last_level
unfolding equal equal_pair ordered
returns-clause-other_lengths_have_no_order_past_the_last_level c = simp (levels, views)

pub returns-clause-a_list_is_ordered_with_itself_by_its_parts : goal.returns-clause-a_list_is_ordered_with_itself_by_its_parts
unfolding equal equal_pair ordered
returns-clause-a_list_is_ordered_with_itself_by_its_parts c = simp (levels, views)

pub returns-clause-an_element_is_at_the_left : goal.returns-clause-an_element_is_at_the_left
unfolding equal equal_pair ordered
returns-clause-an_element_is_at_the_left c = simp (levels, views)
