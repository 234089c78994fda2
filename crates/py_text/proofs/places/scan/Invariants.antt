use Rattle.std.proofs.Common.{◌+◌, ◌*◌, ◌-◌, ◌≤◌, length}
use Rattle.py_text.proofs.Scans.{IsScanned}
use Rattle.py_text.proofs.places.scan.Given as goal

abbrev pub invariant-loop-at : goal.invariant-loop-at
invariant-loop-at l = record { within : l.at + l.fit ≤ length l.text; fits : l.fit ≤ length l.part; scanned : IsScanned l.part l.text l.at l.fit }

-- either the place moves on or one more character fits there
abbrev pub decreases-loop-at : goal.decreases-loop-at
decreases-loop-at l = 2 * length l.text - (2 * l.at + l.fit)
