use Rattle.py_meaning.proofs.Seconds.{set_is_with_second}
use Rattle.py_meaning.proofs.sequence.Sequence+tuple2+A+B.set_second.Goals as goal

pub returns : goal.returns
returns g c = rw (← c.self.view_is) (set_is_with_second _ _ _ _ c.index_mut.ensures.value)
