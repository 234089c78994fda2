use Rattle.py_meaning.specs.Operations.{delete_pair}
use Rattle.py_objects.proofs.Writes.{written_free, unwritten}
use Rattle.py_objects.proofs.objects.Objects.dict_delete_free.Goals as goal

pub returns : goal.returns
returns c = record {
  meant = written_free _ _ _ _ _ _ c.take_held-held.ensures.object c.take_held-held.ensures.rest c.put_held.ensures (delete_pair c.args.key.now) _ c.delete_pair-answer.ensures.meant;
  unchanged = unwritten _ _ _ _ _ _ c.take_held-held.ensures.object c.take_held-held.ensures.rest c.put_held.ensures _ c.delete_pair-answer.ensures.unchanged;
}
