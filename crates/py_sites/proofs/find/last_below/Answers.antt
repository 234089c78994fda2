use Rattle.std.proofs.Common.{◌∙◌, sym, ap}
use Rattle.std.specs.Prelude.{None}
use Rattle.py_sites.specs.Refs.{seen, seen_option}
use Rattle.py_sites.specs.Walks.{node_part}
use Rattle.py_sites.proofs.Orders.{last_goes_down, last_is_here}
use Rattle.py_sites.proofs.Search.{smaller}
use Rattle.py_sites.proofs.find.last_below.Goals as goal

pub loop-part-smaller : goal.loop-part-smaller
unfolding node_part
loop-part-smaller c = smaller None (seen c.loop-part.here) (seen c.in-Some.part) (sym c.in-Some.ensures)

pub loop-part-preserved : goal.loop-part-preserved
unfolding node_part
loop-part-preserved c = c.loop-part.invariant ∙ last_goes_down (seen c.loop-part.here) (seen c.in-Some.part) (sym c.in-Some.ensures)

pub returns : goal.returns
unfolding node_part
returns c = c.loop-part.invariant ∙ last_is_here (seen c.loop-part.here) (sym c.part_of.ensures ∙ ap seen_option c.in_default.is)
