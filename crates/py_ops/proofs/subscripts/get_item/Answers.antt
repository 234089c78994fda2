use Rattle.std.proofs.Common.{sym, ◌∙◌, ap}
use Rattle.py_meaning.specs.Subscripts.{indexed}
use Rattle.py_meaning.specs.declared.value.Value.{out-Value}
use Rattle.py_meaning.specs.declared.value.Value.TheVariants.{outs-Tuple}
use Rattle.py_ops.proofs.Asides.{at_left}
use Rattle.py_ops.proofs.subscripts.get_item.Goals as goal

pub returns-in-Tuple-clause-meant : goal.returns-in-Tuple-clause-meant
returns-in-Tuple-clause-meant c = rw (ap out-Value c.in-Tuple.is ∙ outs-Tuple _) (rw (sym c.is_view-else-is_view.ensures ∙ c.if-is_view-2.false)
    (rw (← c.as_slice-in-Tuple.ensures, ← c.number-in-Tuple.ensures)
    (at_left c.part_at.result (indexed c.as_slice-in-Tuple.result.now c.number-in-Tuple.result) c.args.fuel.now c.part_at.ensures)))
