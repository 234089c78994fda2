use Rattle.py_meaning.specs.Operations.{turned}
use Rattle.py_objects.proofs.Writes.{changed}
use Rattle.py_objects.proofs.objects.Objects.turn.Goals as goal

pub returns : goal.returns
returns c = changed _ _ _ _ _ _ c.take-object.ensures.object c.take-object.ensures.rest c.put.ensures turned c.turned.ensures
