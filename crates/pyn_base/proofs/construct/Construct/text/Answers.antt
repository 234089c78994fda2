use Rattle.std.proofs.Common.{◌∙◌, ap, chars}
use Rattle.pyn_base.proofs.Constructs.{chars-text_of}
use Rattle.pyn_base.proofs.construct.Construct.text.Goals as goal

pub returns-clause-chars : goal.returns-clause-chars
returns-clause-chars c = ap chars c.name.ensures ∙ chars-text_of c.args.self
