use Rattle.std.proofs.Common.{◌∙◌, sym, ap}
use Rattle.std.specs.List.{prefix_len}
use Rattle.py_nodes.specs.Code.{precedes}
use Rattle.py_nodes.proofs.Steps.{prefix_goes_on, prefix_all, stretch_rest}
use Rattle.py_nodes.proofs.expressions.written_before.Goals as goal

pub loop-i-preserved : goal.loop-i-preserved
loop-i-preserved c = prefix_goes_on (precedes c.args.had) _ c.loop-i.i c.index-left-i.result c.loop-i-test.true c.index-left-i.is c.loop-i.invariant (sym c.if-not-precedes.ensures)

pub returns-clause-count : goal.returns-clause-count
returns-clause-count c =
    prefix_all (precedes c.args.had) _ c.loop-i.i c.loop-i-test.false c.loop-i.auto.i-end c.loop-i.invariant
    ∙ ap (prefix_len (precedes c.args.had)) (stretch_rest c.args.named.now c.args.from)
