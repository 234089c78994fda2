use Rattle.py_meaning.specs.Operations.{remove_item}
use Rattle.py_objects.proofs.Writes.{written_free, unwritten}
use Rattle.py_objects.proofs.objects.Objects.list_remove_free.Goals as goal

pub returns : goal.returns
returns c = record {
  meant = written_free _ _ _ _ _ _ c.take-object.ensures.object c.take-object.ensures.rest c.put.ensures (remove_item c.args.at) _ c.remove_item-answer.ensures.meant;
  unchanged = unwritten _ _ _ _ _ _ c.take-object.ensures.object c.take-object.ensures.rest c.put.ensures _ c.remove_item-answer.ensures.unchanged;
}
