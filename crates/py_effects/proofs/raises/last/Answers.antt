use Rattle.std.proofs.Common.{◌∙◌}
use Rattle.py_effects.proofs.Last.{last_at}
use Rattle.py_effects.proofs.raises.last.Goals as goal

pub returns : goal.returns
returns c = c.copied.ensures ∙ c.last.ensures.value ∙ last_at c.args.ids.now
