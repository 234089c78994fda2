use Rattle.py_plain.proofs.ExamplesNames.{test_reads_the_module_0, test_reads_the_module_1, constant_0, builtin_value_0, function_value_0, unbound_local_0, local_shadows_builtin_0, unbound_in_one_branch_0}
use Rattle.py_plain.proofs.names_examples.names_by_example.Goals as goal

pub returns-clause-test_reads_the_module_0 : goal.returns-clause-test_reads_the_module_0
returns-clause-test_reads_the_module_0 c = test_reads_the_module_0.same

pub returns-clause-test_reads_the_module_1 : goal.returns-clause-test_reads_the_module_1
returns-clause-test_reads_the_module_1 c = test_reads_the_module_1.same

pub returns-clause-constant_0 : goal.returns-clause-constant_0
returns-clause-constant_0 c = constant_0.same

pub returns-clause-builtin_value_0 : goal.returns-clause-builtin_value_0
returns-clause-builtin_value_0 c = builtin_value_0.same

pub returns-clause-function_value_0 : goal.returns-clause-function_value_0
returns-clause-function_value_0 c = function_value_0.same

pub returns-clause-unbound_local_0 : goal.returns-clause-unbound_local_0
returns-clause-unbound_local_0 c = unbound_local_0.same

pub returns-clause-local_shadows_builtin_0 : goal.returns-clause-local_shadows_builtin_0
returns-clause-local_shadows_builtin_0 c = local_shadows_builtin_0.same

pub returns-clause-unbound_in_one_branch_0 : goal.returns-clause-unbound_in_one_branch_0
returns-clause-unbound_in_one_branch_0 c = unbound_in_one_branch_0.same
