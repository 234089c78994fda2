use Rattle.py_plain.proofs.ExamplesDecisions.{chain_fails_first_0, conditional_false_0, conditional_as_test_0, and_stops_0, or_stops_0, not_of_comparison_0}
use Rattle.py_plain.proofs.decisions_examples.decisions_by_example.Goals as goal

pub returns-clause-chain_fails_first_0 : goal.returns-clause-chain_fails_first_0
returns-clause-chain_fails_first_0 c = chain_fails_first_0.same

pub returns-clause-conditional_false_0 : goal.returns-clause-conditional_false_0
returns-clause-conditional_false_0 c = conditional_false_0.same

pub returns-clause-conditional_as_test_0 : goal.returns-clause-conditional_as_test_0
returns-clause-conditional_as_test_0 c = conditional_as_test_0.same

pub returns-clause-and_stops_0 : goal.returns-clause-and_stops_0
returns-clause-and_stops_0 c = and_stops_0.same

pub returns-clause-or_stops_0 : goal.returns-clause-or_stops_0
returns-clause-or_stops_0 c = or_stops_0.same

pub returns-clause-not_of_comparison_0 : goal.returns-clause-not_of_comparison_0
returns-clause-not_of_comparison_0 c = not_of_comparison_0.same
