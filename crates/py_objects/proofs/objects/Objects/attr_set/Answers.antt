use Rattle.py_meaning.specs.Operations.{set_attribute}
use Rattle.py_objects.proofs.Writes.{rewritten, not_rewritten}
use Rattle.py_objects.proofs.objects.Objects.attr_set.Goals as goal

pub returns-clause-ok : goal.returns-clause-ok
returns-clause-ok c = rewritten _ _ _ _ _ _ c.take-object.ensures.object c.take-object.ensures.rest c.put.ensures (set_attribute c.args.name.now c.args.value) _ c.set_attribute-answer.ensures.ok

pub returns-clause-err : goal.returns-clause-err
returns-clause-err c = not_rewritten _ _ _ _ _ _ c.take-object.ensures.object c.take-object.ensures.rest c.put.ensures _ c.set_attribute-answer.ensures.err
