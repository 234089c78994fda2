use Rattle.py_plain.proofs.ExamplesLoops.{for_grows_0, for_dict_changed_0, for_empty_0, while_forever_0, for_not_walked_0, for_out_of_steps_0, while_return_0}
use Rattle.py_plain.proofs.loops_examples.loops_by_example.Goals as goal

pub returns-clause-for_grows_0 : goal.returns-clause-for_grows_0
returns-clause-for_grows_0 c = for_grows_0.same

pub returns-clause-for_dict_changed_0 : goal.returns-clause-for_dict_changed_0
returns-clause-for_dict_changed_0 c = for_dict_changed_0.same

pub returns-clause-for_empty_0 : goal.returns-clause-for_empty_0
returns-clause-for_empty_0 c = for_empty_0.same

pub returns-clause-while_forever_0 : goal.returns-clause-while_forever_0
returns-clause-while_forever_0 c = while_forever_0.same

pub returns-clause-for_not_walked_0 : goal.returns-clause-for_not_walked_0
returns-clause-for_not_walked_0 c = for_not_walked_0.same

pub returns-clause-for_out_of_steps_0 : goal.returns-clause-for_out_of_steps_0
returns-clause-for_out_of_steps_0 c = for_out_of_steps_0.same

pub returns-clause-while_return_0 : goal.returns-clause-while_return_0
returns-clause-while_return_0 c = while_return_0.same
