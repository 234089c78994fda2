use Rattle.py_plain.proofs.ExamplesClasses.{exception_init_0, class_function_0, init_returns_0, super_chain_0, super_of_class_0, mro_0, missing_of_class_0, set_class_attribute_0, inherited_constant_0}
use Rattle.py_plain.proofs.classes_examples.classes_by_example.Goals as goal

pub returns-clause-class_function_0 : goal.returns-clause-class_function_0
returns-clause-class_function_0 c = class_function_0.same

pub returns-clause-init_returns_0 : goal.returns-clause-init_returns_0
returns-clause-init_returns_0 c = init_returns_0.same

pub returns-clause-super_chain_0 : goal.returns-clause-super_chain_0
returns-clause-super_chain_0 c = super_chain_0.same

pub returns-clause-super_of_class_0 : goal.returns-clause-super_of_class_0
returns-clause-super_of_class_0 c = super_of_class_0.same

pub returns-clause-mro_0 : goal.returns-clause-mro_0
returns-clause-mro_0 c = mro_0.same

pub returns-clause-missing_of_class_0 : goal.returns-clause-missing_of_class_0
returns-clause-missing_of_class_0 c = missing_of_class_0.same

pub returns-clause-set_class_attribute_0 : goal.returns-clause-set_class_attribute_0
returns-clause-set_class_attribute_0 c = set_class_attribute_0.same

pub returns-clause-inherited_constant_0 : goal.returns-clause-inherited_constant_0
returns-clause-inherited_constant_0 c = inherited_constant_0.same

pub returns-clause-exception_init_0 : goal.returns-clause-exception_init_0
returns-clause-exception_init_0 c = exception_init_0.same
