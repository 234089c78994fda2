use Rattle.std.proofs.Common.{◌∙◌, sym}
use Rattle.py_frames.proofs.Tails.{first_left}
use Rattle.py_frames.proofs.tail.Tail.first.Goals as goal

pub returns : goal.returns
returns g c = sym c.self.view_is ∙ first_left c.self.inside.items.now c.self.inside.at c.in-Some.item.now c.in-Some.ensures.value
