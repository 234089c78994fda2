use Rattle.std.proofs.Common.{sym, ◌∙◌}
use Rattle.py_walks.proofs.Ranges.{in_range_same}
use Rattle.py_walks.proofs.elements.sum.Goals as goal

pub returns-in-Some : goal.returns-in-Some
returns-in-Some c = in_range_same _ _ (sym c.add.ensures ∙ c.in-Some.is)
