use Rattle.std.proofs.Common.{arith}
use Rattle.py_text.proofs.Scans.{found_nowhere, scan_begins}
use Rattle.py_text.proofs.places.first_place.Goals as goal

pub returns-then-text-part-clause-place : goal.returns-then-text-part-clause-place
returns-then-text-part-clause-place c = found_nowhere 0 0 (omega arith) (scan_begins c.args.part.now c.args.text.now)
