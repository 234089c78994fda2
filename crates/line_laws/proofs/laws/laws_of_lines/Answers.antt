use Rattle.line_laws.proofs.ReadModules.{lines_are_plain}
use Rattle.line_laws.proofs.laws.laws_of_lines.Goals as goal

pub returns : goal.returns
returns c = record { plain = lines_are_plain c.laws_of_tokens.ensures.numbered }
