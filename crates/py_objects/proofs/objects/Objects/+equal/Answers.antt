use Rattle.std.proofs.Common.{length, ap, sym, ◌∙◌}
use Rattle.py_objects.proofs.Depths.{sequences_deeper, dicts_deeper}
use Rattle.py_objects.proofs.objects.Objects.+equal.Goals as goal

pub equal_dicts-returns-else-levels-eq0 : goal.equal_dicts-returns-else-levels-eq0
equal_dicts-returns-else-levels-eq0 t c = dicts_deeper _ _ _ _ _ _ _ c.if-levels-eq0.false
    (ap length (sym c.pairs.ensures) ∙ c.if-pairs-ys.false ∙ ap length c.pairs-ys.ensures) (rw c.pairs-ys.ensures at c.equal_pairs.ensures)

pub equal_sequences-returns-else-levels-eq0 : goal.equal_sequences-returns-else-levels-eq0
equal_sequences-returns-else-levels-eq0 t c = sequences_deeper _ _ _ _ _ _ _ c.if-levels-eq0.false c.if-xs-ys.false c.equal_parts.ensures
