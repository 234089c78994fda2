use Rattle.std.proofs.Common.{refl}
use Rattle.std.specs.Fmt.{digits}
use Rattle.py_printer.specs.Style.{put}
use Rattle.py_printer.proofs.Unrolled.{printed-Atom, printed-Binary}
use Rattle.py_printer.proofs.style_examples.style_by_example.Goals as goal

pub returns-clause-sum_and_product : goal.returns-clause-sum_and_product
unfolding put digits
returns-clause-sum_and_product c = refl

pub returns-clause-signs : goal.returns-clause-signs
unfolding put digits
returns-clause-signs c = refl

pub returns-clause-call : goal.returns-clause-call
unfolding put digits
returns-clause-call c = refl

pub returns-clause-slice : goal.returns-clause-slice
unfolding put digits
returns-clause-slice c = refl

pub returns-clause-dict : goal.returns-clause-dict
unfolding put digits
returns-clause-dict c = refl

pub returns-clause-tuple_of_one : goal.returns-clause-tuple_of_one
unfolding put digits
returns-clause-tuple_of_one c = refl

pub returns-clause-number_with_an_attribute : goal.returns-clause-number_with_an_attribute
unfolding put digits
returns-clause-number_with_an_attribute c = refl

pub returns-clause-method_of_a_result : goal.returns-clause-method_of_a_result
unfolding put digits
returns-clause-method_of_a_result c = refl

pub returns-clause-keywords : goal.returns-clause-keywords
unfolding put digits
returns-clause-keywords c = refl

pub returns-clause-parameters : goal.returns-clause-parameters
unfolding put digits
returns-clause-parameters c = refl

pub returns-clause-tree : goal.returns-clause-tree
unfolding put
returns-clause-tree c = simp (printed-Binary, printed-Atom)
