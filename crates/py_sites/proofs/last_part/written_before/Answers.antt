use Rattle.std.proofs.Common.{sym}
use Rattle.py_sites.specs.Code.{precedes}
use Rattle.py_sites.proofs.Arguments.{prefix_goes_on, prefix_all}
use Rattle.py_sites.proofs.last_part.written_before.Goals as goal

pub loop-i-preserved : goal.loop-i-preserved
loop-i-preserved c = prefix_goes_on (precedes c.args.number) _ c.loop-i.i c.index-named-i.result c.loop-i-test.true c.index-named-i.is c.loop-i.invariant (sym c.if-not-precedes.ensures)

pub returns-clause-count : goal.returns-clause-count
returns-clause-count c = prefix_all (precedes c.args.number) _ c.loop-i.i c.loop-i-test.false c.loop-i.auto.i-end c.loop-i.invariant
