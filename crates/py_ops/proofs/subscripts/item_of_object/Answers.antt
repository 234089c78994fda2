use Rattle.std.proofs.Common.{sym, ◌∙◌}
use Rattle.py_meaning.specs.Subscripts.{indexed}
use Rattle.py_ops.proofs.Asides.{at_left}
use Rattle.py_ops.proofs.subscripts.item_of_object.Goals as goal

pub returns-in-List-clause-meant : goal.returns-in-List-clause-meant
returns-in-List-clause-meant c = rw (sym c.kind.ensures ∙ c.in-List.is) (rw (← c.elements.ensures, ← c.number.ensures)
    (at_left c.part_at.result (indexed c.elements.result.now c.number.result) c.args.fuel.now c.part_at.ensures))
