use Rattle.std.proofs.Common.{refl}
use Rattle.py_module_rules.proofs.Leasts.{least_more}
use Rattle.py_module_rules.proofs.lines.least_of.Goals as goal

pub loop-line-preserved : goal.loop-line-preserved
loop-line-preserved c = least_more c.args.lines.now c.loop-line.line-index _ _ _ c.loop-line-test.true refl c.loop-line.invariant c.earlier.ensures
