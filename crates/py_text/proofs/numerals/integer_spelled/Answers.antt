use Rattle.std.proofs.Common.{ap, ◌∙◌}
use Rattle.std.specs.Option.{option_map}
use Rattle.pyn_base.specs.Int.{in_range}
use Rattle.py_meaning.specs.Numerals.{integer_spelled, signed_spelled}
use Rattle.py_text.proofs.numerals.integer_spelled.Goals as goal

pub returns : goal.returns
unfolding integer_spelled
returns c = c.signed_spelled.ensures ∙ ap (λ text. option_map in_range (signed_spelled text)) c.without_spaces.ensures
