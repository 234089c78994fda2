use Rattle.std.proofs.Common.{refl}
use Rattle.py_meaning.specs.Folds.{views}
use Rattle.running_examples.proofs.statements.statement_examples.Goals as goal

pub returns-clause-no_step_no_beginning : goal.returns-clause-no_step_no_beginning
returns-clause-no_step_no_beginning c = refl

pub returns-clause-the_last_step_begins : goal.returns-clause-the_last_step_begins
returns-clause-the_last_step_begins c = refl

pub returns-clause-an_element_is_paid_for_before_its_outcome : goal.returns-clause-an_element_is_paid_for_before_its_outcome
returns-clause-an_element_is_paid_for_before_its_outcome c = refl

pub returns-clause-the_outcome_comes_before_the_names : goal.returns-clause-the_outcome_comes_before_the_names
returns-clause-the_outcome_comes_before_the_names c = simp views

pub returns-clause-an_item_too_deep_is_paid_for : goal.returns-clause-an_item_too_deep_is_paid_for
returns-clause-an_item_too_deep_is_paid_for c = simp views

pub returns-clause-all_elements_are_taken_apart : goal.returns-clause-all_elements_are_taken_apart
returns-clause-all_elements_are_taken_apart c = simp views

pub returns-clause-a_failure_without_a_message : goal.returns-clause-a_failure_without_a_message
returns-clause-a_failure_without_a_message c = refl

pub returns-clause-a_failure_with_a_message : goal.returns-clause-a_failure_with_a_message
returns-clause-a_failure_with_a_message c = simp views

pub returns-clause-a_message_too_deep : goal.returns-clause-a_message_too_deep
returns-clause-a_message_too_deep c = simp views

pub returns-clause-a_clause_names_a_class_above : goal.returns-clause-a_clause_names_a_class_above
returns-clause-a_clause_names_a_class_above c = simp views

pub returns-clause-a_clause_names_another_class : goal.returns-clause-a_clause_names_another_class
returns-clause-a_clause_names_another_class c = simp views
