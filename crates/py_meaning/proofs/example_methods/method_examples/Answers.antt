use Rattle.std.proofs.Common.{refl}
use Rattle.py_meaning.specs.Equal.{equal}
use Rattle.py_meaning.specs.Texts.{pieces}
use Rattle.py_meaning.specs.Folds.{levels, views}
use Rattle.py_meaning.proofs.example_methods.method_examples.Goals as goal

pub returns-clause-appended : goal.returns-clause-appended
returns-clause-appended c = refl

pub returns-clause-popped_at_the_front : goal.returns-clause-popped_at_the_front
returns-clause-popped_at_the_front c = simp (levels, views)

pub returns-clause-inserted_far_before : goal.returns-clause-inserted_far_before
returns-clause-inserted_far_before c = simp (levels, views)

pub returns-clause-extended_by_itself : goal.returns-clause-extended_by_itself
returns-clause-extended_by_itself c = simp (levels, views)

pub returns-clause-true_is_removed : goal.returns-clause-true_is_removed
unfolding equal
returns-clause-true_is_removed c = simp (levels, views)

pub returns-clause-not_in_the_list : goal.returns-clause-not_in_the_list
unfolding equal
returns-clause-not_in_the_list c = simp (levels, views)

pub returns-clause-no_default : goal.returns-clause-no_default
returns-clause-no_default c = simp (levels, views)

pub returns-clause-a_default_is_put : goal.returns-clause-a_default_is_put
returns-clause-a_default_is_put c = simp (levels, views)

pub returns-clause-a_list_as_a_key : goal.returns-clause-a_list_as_a_key
returns-clause-a_list_as_a_key c = simp (levels, views)

pub returns-clause-empty_texts_are_replaced : goal.returns-clause-empty_texts_are_replaced
returns-clause-empty_texts_are_replaced c = simp (levels, views)

pub returns-clause-split_at_commas : goal.returns-clause-split_at_commas
unfolding pieces
returns-clause-split_at_commas c = simp (levels, views)

pub returns-clause-split_at_blanks : goal.returns-clause-split_at_blanks
returns-clause-split_at_blanks c = refl

pub returns-clause-letters_are_joined : goal.returns-clause-letters_are_joined
returns-clause-letters_are_joined c = simp (levels, views)

pub returns-clause-nowhere : goal.returns-clause-nowhere
returns-clause-nowhere c = simp (levels, views)

pub returns-clause-by_name : goal.returns-clause-by_name
returns-clause-by_name c = simp (levels, views)

pub returns-clause-sorting_leaves : goal.returns-clause-sorting_leaves
returns-clause-sorting_leaves c = simp (levels, views)

pub returns-clause-no_such_name : goal.returns-clause-no_such_name
returns-clause-no_such_name c = simp (levels, views)

pub returns-clause-views_have_no_methods : goal.returns-clause-views_have_no_methods
returns-clause-views_have_no_methods c = simp (levels, views)
