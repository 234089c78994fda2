use Rattle.py_meaning.specs.Operations.{with_args}
use Rattle.py_objects.proofs.Writes.{rewritten, not_rewritten}
use Rattle.py_objects.proofs.objects.Objects.set_args.Goals as goal

pub returns-clause-ok : goal.returns-clause-ok
returns-clause-ok c = rewritten _ _ _ _ _ _ c.take-object.ensures.object c.take-object.ensures.rest c.put.ensures (with_args c.args.args) _ c.with_args-answer.ensures.ok

pub returns-clause-err : goal.returns-clause-err
returns-clause-err c = not_rewritten _ _ _ _ _ _ c.take-object.ensures.object c.take-object.ensures.rest c.put.ensures _ c.with_args-answer.ensures.err
