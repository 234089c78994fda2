use Rattle.py_plain.proofs.ExamplesExceptions.{caught_0, bare_clause_0, finally_replaces_return_0, finally_breaks_0, continue_through_finally_0, name_unbound_after_0, assert_fails_0, raise_no_exception_0, reraise_innermost_0, exception_attribute_0, no_finally_when_left_0}
use Rattle.py_plain.proofs.exceptions_examples.exceptions_by_example.Goals as goal

pub returns-clause-caught_0 : goal.returns-clause-caught_0
returns-clause-caught_0 c = caught_0.same

pub returns-clause-bare_clause_0 : goal.returns-clause-bare_clause_0
returns-clause-bare_clause_0 c = bare_clause_0.same

pub returns-clause-finally_replaces_return_0 : goal.returns-clause-finally_replaces_return_0
returns-clause-finally_replaces_return_0 c = finally_replaces_return_0.same

pub returns-clause-finally_breaks_0 : goal.returns-clause-finally_breaks_0
returns-clause-finally_breaks_0 c = finally_breaks_0.same

pub returns-clause-continue_through_finally_0 : goal.returns-clause-continue_through_finally_0
returns-clause-continue_through_finally_0 c = continue_through_finally_0.same

pub returns-clause-name_unbound_after_0 : goal.returns-clause-name_unbound_after_0
returns-clause-name_unbound_after_0 c = name_unbound_after_0.same

pub returns-clause-assert_fails_0 : goal.returns-clause-assert_fails_0
returns-clause-assert_fails_0 c = assert_fails_0.same

pub returns-clause-raise_no_exception_0 : goal.returns-clause-raise_no_exception_0
returns-clause-raise_no_exception_0 c = raise_no_exception_0.same

pub returns-clause-reraise_innermost_0 : goal.returns-clause-reraise_innermost_0
returns-clause-reraise_innermost_0 c = reraise_innermost_0.same

pub returns-clause-exception_attribute_0 : goal.returns-clause-exception_attribute_0
returns-clause-exception_attribute_0 c = exception_attribute_0.same

pub returns-clause-no_finally_when_left_0 : goal.returns-clause-no_finally_when_left_0
returns-clause-no_finally_when_left_0 c = no_finally_when_left_0.same
