use Rattle.call_tests.proofs.ByExample.{full_box, plain, unknown, lists, dicts, optional, instances, of_itself, private_class}
use Rattle.call_tests.proofs.examples.tests_by_example.Goals as goal

pub returns-clause-full_box : goal.returns-clause-full_box
returns-clause-full_box c = full_box c.laws_of_types.ensures.by_annotation

pub returns-clause-plain : goal.returns-clause-plain
returns-clause-plain c = plain c.laws_of_types.ensures.by_annotation

pub returns-clause-instances : goal.returns-clause-instances
returns-clause-instances c = instances c.laws_of_types.ensures.by_annotation

pub returns-clause-of_itself : goal.returns-clause-of_itself
returns-clause-of_itself c = of_itself c.laws_of_types.ensures.by_annotation

pub returns-clause-private_class : goal.returns-clause-private_class
returns-clause-private_class c = private_class c.laws_of_types.ensures.by_annotation

pub returns-clause-unknown : goal.returns-clause-unknown
returns-clause-unknown c = unknown

pub returns-clause-lists : goal.returns-clause-lists
returns-clause-lists c = lists c.laws_of_types.ensures.by_annotation

pub returns-clause-dicts : goal.returns-clause-dicts
returns-clause-dicts c = dicts c.laws_of_types.ensures.by_annotation

pub returns-clause-optional : goal.returns-clause-optional
returns-clause-optional c = optional c.laws_of_types.ensures.by_annotation
