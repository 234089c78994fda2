use Rattle.std.proofs.Common.{◌∙◌}
use Rattle.suite_reader.proofs.Numerals.{by_bytes}
use Rattle.suite_reader.proofs.variables.variable_named.Goals as goal

pub returns : goal.returns
returns c = c.variable_spelled.ensures ∙ by_bytes c.args.name.now c.as_str.result.now c.as_str.ensures.chars c.as_str.ensures.bytes
