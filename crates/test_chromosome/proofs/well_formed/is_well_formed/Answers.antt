use Rattle.std.proofs.Common.{sym}
use Rattle.test_chromosome.proofs.Steps.{well_formed}
use Rattle.test_chromosome.proofs.well_formed.is_well_formed.Goals as goal

pub returns : goal.returns
returns c m is = rw (sym (well_formed m c.args.tables.now c.args.test.now is)) c.are_steps_fit.ensures
