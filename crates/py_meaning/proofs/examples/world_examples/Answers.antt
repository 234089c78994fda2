use Rattle.std.proofs.Common.{refl}
use Rattle.py_meaning.specs.Equal.{equal, equal_pair}
use Rattle.py_meaning.specs.Less.{ordered}
use Rattle.py_meaning.specs.Folds.{levels, views}
use Rattle.py_meaning.specs.Tuples.{tuple}
use Rattle.py_meaning.proofs.Levels.{nested_sound}
use Rattle.py_meaning.proofs.examples.world_examples.Goals as goal

pub returns-clause-deep : goal.returns-clause-deep
returns-clause-deep c = simp (levels, views)

pub returns-clause-key_of_a_tuple : goal.returns-clause-key_of_a_tuple
returns-clause-key_of_a_tuple c = simp (levels, views)

pub returns-clause-empty_is_false : goal.returns-clause-empty_is_false
returns-clause-empty_is_false c = simp (levels, views)

pub returns-clause-nothing_there : goal.returns-clause-nothing_there
returns-clause-nothing_there c = simp (levels, views)

pub returns-clause-two_lists : goal.returns-clause-two_lists
unfolding equal
returns-clause-two_lists c = simp (levels, views)

pub returns-clause-same_list : goal.returns-clause-same_list
unfolding equal
returns-clause-same_list c = simp (levels, views)

pub returns-clause-last_level : goal.returns-clause-last_level
returns-clause-last_level c = simp (levels, views)

pub returns-clause-two_dicts : goal.returns-clause-two_dicts
unfolding equal equal_pair
returns-clause-two_dicts c = simp (levels, views)

pub returns-clause-texts_in_order : goal.returns-clause-texts_in_order
unfolding ordered
returns-clause-texts_in_order c = simp (levels, views)

pub returns-clause-lists_in_order : goal.returns-clause-lists_in_order
unfolding ordered
returns-clause-lists_in_order c = simp (levels, views)

pub returns-clause-no_order : goal.returns-clause-no_order
unfolding ordered
returns-clause-no_order c = simp (levels, views)

pub returns-clause-from_the_end : goal.returns-clause-from_the_end
returns-clause-from_the_end c = refl

pub returns-clause-far_insertion : goal.returns-clause-far_insertion
returns-clause-far_insertion c = refl

pub returns-clause-true_is_one : goal.returns-clause-true_is_one
returns-clause-true_is_one c = simp (levels, views)

pub returns-clause-a_new_key : goal.returns-clause-a_new_key
returns-clause-a_new_key c = simp (levels, views)

pub returns-clause-a_key_deleted : goal.returns-clause-a_key_deleted
returns-clause-a_key_deleted c = simp (levels, views)

pub returns-clause-missing_key : goal.returns-clause-missing_key
returns-clause-missing_key c = simp (levels, views)

pub returns-clause-a_list_is_no_key : goal.returns-clause-a_list_is_no_key
returns-clause-a_list_is_no_key c = simp (levels, views)

pub returns-clause-too_few_steps : goal.returns-clause-too_few_steps
returns-clause-too_few_steps c = simp (levels, views)

pub returns-clause-a_range : goal.returns-clause-a_range
returns-clause-a_range c = simp (levels, views)

pub returns-clause-wrong_number : goal.returns-clause-wrong_number
returns-clause-wrong_number c = simp (levels, views)

pub returns-clause-fifty_levels : goal.returns-clause-fifty_levels
returns-clause-fifty_levels c = nested_sound 50

pub returns-clause-arguments_of_51_levels : goal.returns-clause-arguments_of_51_levels
unfolding tuple
returns-clause-arguments_of_51_levels c = nested_sound 51
