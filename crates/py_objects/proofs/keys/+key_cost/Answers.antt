use Rattle.std.proofs.Common.{sym, ◌∙◌}
use Rattle.py_objects.proofs.Costs.{tuple_some, tuple_none, parts_none}
use Rattle.py_objects.proofs.keys.+key_cost.Goals as goal

pub key_cost_within-returns-in-Some : goal.key_cost_within-returns-in-Some
key_cost_within-returns-in-Some t c = c.within-in-Some.ensures
    ∙ tuple_some _ _ _ _ _ c.in-Tuple.is c.as_slice-in-Tuple.ensures (sym c.in-Some.is ∙ c.parts_cost_within.ensures)

pub key_cost_within-returns-in-None : goal.key_cost_within-returns-in-None
key_cost_within-returns-in-None t c = tuple_none _ _ _ _ c.in-Tuple.is c.as_slice-in-Tuple.ensures (sym c.in-None.is ∙ c.parts_cost_within.ensures)

pub parts_cost_within-returns-in-None : goal.parts_cost_within-returns-in-None
parts_cost_within-returns-in-None t c = parts_none _ _ _ _ _ c.loop-part-test.true c.part-item.is c.loop-part.invariant.paid (sym c.in-None.is ∙ c.key_cost_within.ensures)
