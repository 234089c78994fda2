-- Each example computes.
use Rattle.std.proofs.Common.{refl}
use Rattle.std.specs.Fmt.{digits}
use Rattle.report_model.proofs.examples.written_by_example.Goals as goal

pub returns : goal.returns
unfolding digits
returns c = record { written = refl }
