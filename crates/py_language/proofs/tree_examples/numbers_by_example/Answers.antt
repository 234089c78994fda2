use Rattle.py_language.specs.Trees.{listed, conditional, disjunction, conjunction, negation, comparison, sum, product, signed, postfix, inside, tree_at}
use Rattle.py_language.specs.TreesPlaces.{at, below, closing, colon}
use Rattle.py_language.proofs.TreesNumbering.{numbering}
use Rattle.py_language.proofs.tree_examples.numbers_by_example.Goals as goal

pub returns-clause-before_its_parts : goal.returns-clause-before_its_parts
unfolding listed conditional disjunction conjunction negation comparison sum product signed postfix inside tree_at at below closing colon
returns-clause-before_its_parts c = simp numbering

pub returns-clause-arguments_as_they_stand : goal.returns-clause-arguments_as_they_stand
unfolding listed conditional disjunction conjunction negation comparison sum product signed postfix inside tree_at at below closing colon
returns-clause-arguments_as_they_stand c = simp numbering

pub returns-clause-value_test_other : goal.returns-clause-value_test_other
unfolding listed conditional disjunction conjunction negation comparison sum product signed postfix inside tree_at at below closing colon
returns-clause-value_test_other c = simp numbering

pub returns-clause-tuple : goal.returns-clause-tuple
unfolding listed conditional disjunction conjunction negation comparison sum product signed postfix inside tree_at at below closing colon
returns-clause-tuple c = simp numbering

pub returns-clause-no_comma : goal.returns-clause-no_comma
unfolding listed conditional disjunction conjunction negation comparison sum product signed postfix inside tree_at at below closing colon
returns-clause-no_comma c = simp numbering
