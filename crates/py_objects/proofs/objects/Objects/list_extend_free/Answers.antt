use Rattle.py_meaning.specs.Operations.{grown}
use Rattle.py_objects.proofs.Writes.{rewritten, not_rewritten}
use Rattle.py_objects.proofs.objects.Objects.list_extend_free.Goals as goal

pub returns-clause-ok : goal.returns-clause-ok
returns-clause-ok c = rewritten _ _ _ _ _ _ c.take-object.ensures.object c.take-object.ensures.rest c.put.ensures (grown c.args.items.items) _ c.grown-answer.ensures.ok

pub returns-clause-err : goal.returns-clause-err
returns-clause-err c = not_rewritten _ _ _ _ _ _ c.take-object.ensures.object c.take-object.ensures.rest c.put.ensures _ c.grown-answer.ensures.err
