use Rattle.py_language.specs.TokensMarks.{marks}
use Rattle.py_printing.proofs.Unrolled.{printed-Atom, printed-TupleLit, printed-Attr, printed-Call, printed-Unary, printed-Not, printed-Binary, printed-And}
use Rattle.py_printing.proofs.printing_examples.printing_by_example.Goals as goal

pub returns-clause-looser_operand : goal.returns-clause-looser_operand
unfolding marks
returns-clause-looser_operand c = simp (printed-Binary, printed-Unary, printed-Atom)

pub returns-clause-tighter_operand : goal.returns-clause-tighter_operand
unfolding marks
returns-clause-tighter_operand c = simp (printed-Binary, printed-Atom)

pub returns-clause-right_operand : goal.returns-clause-right_operand
unfolding marks
returns-clause-right_operand c = simp (printed-Binary, printed-Atom)

pub returns-clause-tuple_of_one : goal.returns-clause-tuple_of_one
unfolding marks
returns-clause-tuple_of_one c = simp (printed-TupleLit, printed-Atom)

pub returns-clause-call_of_an_attribute : goal.returns-clause-call_of_an_attribute
unfolding marks
returns-clause-call_of_an_attribute c = simp (printed-Call, printed-Attr, printed-Atom)

pub returns-clause-not_of_a_truth : goal.returns-clause-not_of_a_truth
unfolding marks
returns-clause-not_of_a_truth c = simp (printed-Not, printed-And, printed-Atom)
