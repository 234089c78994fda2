use Rattle.py_meaning.specs.Operations.{put_pair}
use Rattle.py_objects.proofs.Writes.{rewritten, not_rewritten}
use Rattle.py_objects.proofs.objects.Objects.dict_put_free.Goals as goal

pub returns-clause-ok : goal.returns-clause-ok
returns-clause-ok c = rewritten _ _ _ _ _ _ c.take_held-held.ensures.object c.take_held-held.ensures.rest c.put_held.ensures (put_pair c.args.key c.args.value) _ c.put_pair-answer.ensures.ok

pub returns-clause-err : goal.returns-clause-err
returns-clause-err c = not_rewritten _ _ _ _ _ _ c.take_held-held.ensures.object c.take_held-held.ensures.rest c.put_held.ensures _ c.put_pair-answer.ensures.err
