use Rattle.py_meaning.specs.Less.{ordered}
use Rattle.py_meaning.specs.Numerals.{integer_spelled}
use Rattle.py_meaning.specs.Folds.{levels, views}
use Rattle.py_meaning.proofs.example_builtins.builtin_examples.Goals as goal

pub returns-clause-length_of_a_dict : goal.returns-clause-length_of_a_dict
returns-clause-length_of_a_dict c = simp views

pub returns-clause-no_length : goal.returns-clause-no_length
returns-clause-no_length c = simp views

pub returns-clause-the_first_of_equals : goal.returns-clause-the_first_of_equals
unfolding ordered
returns-clause-the_first_of_equals c = simp views

pub returns-clause-no_least : goal.returns-clause-no_least
returns-clause-no_least c = simp views

pub returns-clause-sum_of_a_tuple : goal.returns-clause-sum_of_a_tuple
returns-clause-sum_of_a_tuple c = simp views

pub returns-clause-joined_lists : goal.returns-clause-joined_lists
returns-clause-joined_lists c = simp views

pub returns-clause-not_enough_steps : goal.returns-clause-not_enough_steps
returns-clause-not_enough_steps c = simp views

pub returns-clause-no_sum_of_texts : goal.returns-clause-no_sum_of_texts
returns-clause-no_sum_of_texts c = simp views

pub returns-clause-text_of_none : goal.returns-clause-text_of_none
returns-clause-text_of_none c = simp views

pub returns-clause-text_of_an_error : goal.returns-clause-text_of_an_error
returns-clause-text_of_an_error c = simp views

pub returns-clause-text_of_a_missing_key : goal.returns-clause-text_of_a_missing_key
returns-clause-text_of_a_missing_key c = simp views

pub returns-clause-unknown_arguments : goal.returns-clause-unknown_arguments
returns-clause-unknown_arguments c = simp views

pub returns-clause-an_integer_with_spaces : goal.returns-clause-an_integer_with_spaces
unfolding integer_spelled
returns-clause-an_integer_with_spaces c = simp views

pub returns-clause-true_is_one : goal.returns-clause-true_is_one
returns-clause-true_is_one c = simp views

pub returns-clause-a_list_of_characters : goal.returns-clause-a_list_of_characters
returns-clause-a_list_of_characters c = simp views

pub returns-clause-a_tuple_of_a_range : goal.returns-clause-a_tuple_of_a_range
returns-clause-a_tuple_of_a_range c = simp (levels, views)

pub returns-clause-no_dict_of_a_list : goal.returns-clause-no_dict_of_a_list
returns-clause-no_dict_of_a_list c = simp views

pub returns-clause-a_range_backwards : goal.returns-clause-a_range_backwards
returns-clause-a_range_backwards c = simp views

pub returns-clause-a_range_stands_still : goal.returns-clause-a_range_stands_still
returns-clause-a_range_stands_still c = simp views

pub returns-clause-beyond_the_machine : goal.returns-clause-beyond_the_machine
returns-clause-beyond_the_machine c = simp views
