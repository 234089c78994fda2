use Rattle.std.proofs.Common.{refl}
use Rattle.std.specs.Fmt.{digits}
use Rattle.py_meaning.specs.Texts.{pieces}
use Rattle.py_meaning.specs.Numerals.{integer_spelled}
use Rattle.py_meaning.proofs.example_texts.text_examples.Goals as goal

pub returns-clause-cut_at_a_text : goal.returns-clause-cut_at_a_text
unfolding pieces
returns-clause-cut_at_a_text c = refl

pub returns-clause-pieces_do_not_overlap : goal.returns-clause-pieces_do_not_overlap
unfolding pieces
returns-clause-pieces_do_not_overlap c = refl

pub returns-clause-empty_pieces_stay : goal.returns-clause-empty_pieces_stay
unfolding pieces
returns-clause-empty_pieces_stay c = refl

pub returns-clause-replaced_from_the_left : goal.returns-clause-replaced_from_the_left
unfolding pieces
returns-clause-replaced_from_the_left c = refl

pub returns-clause-spaces_at_the_ends : goal.returns-clause-spaces_at_the_ends
unfolding integer_spelled
returns-clause-spaces_at_the_ends c = refl

pub returns-clause-below_zero : goal.returns-clause-below_zero
unfolding integer_spelled
returns-clause-below_zero c = refl

pub returns-clause-leading_zeros : goal.returns-clause-leading_zeros
unfolding integer_spelled
returns-clause-leading_zeros c = refl

pub returns-clause-no_zero_below : goal.returns-clause-no_zero_below
unfolding integer_spelled
returns-clause-no_zero_below c = refl

pub returns-clause-nothing_is_no_integer : goal.returns-clause-nothing_is_no_integer
unfolding integer_spelled
returns-clause-nothing_is_no_integer c = refl

pub returns-clause-two_signs : goal.returns-clause-two_signs
unfolding integer_spelled
returns-clause-two_signs c = refl

pub returns-clause-a_space_within : goal.returns-clause-a_space_within
unfolding integer_spelled
returns-clause-a_space_within c = refl

pub returns-clause-its_digits : goal.returns-clause-its_digits
unfolding digits
returns-clause-its_digits c = refl
