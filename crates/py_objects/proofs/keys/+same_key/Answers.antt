use Rattle.py_meaning.specs.Keys.{same_key}
use Rattle.py_objects.proofs.Fronts.{uneven}
use Rattle.py_objects.proofs.keys.+same_key.Goals as goal

pub are_same_keys-returns-then-xs-ys : goal.are_same_keys-returns-then-xs-ys
are_same_keys-returns-then-xs-ys t c = uneven same_key _ _ c.if-xs-ys.true
