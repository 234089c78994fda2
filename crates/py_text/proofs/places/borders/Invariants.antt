use Rattle.std.proofs.Common.{◌+◌, ◌*◌, ◌-◌, ◌≤◌, length}
use Rattle.py_text.proofs.Scans.{AreBordersSoFar}
use Rattle.py_text.proofs.places.borders.Given as goal

abbrev pub invariant-loop-at : goal.invariant-loop-at
invariant-loop-at l = record { within : l.at + l.fit ≤ length l.text; so_far : AreBordersSoFar l.text l.borders.items l.at l.fit }

abbrev pub decreases-loop-at : goal.decreases-loop-at
decreases-loop-at l = 2 * length l.text - (2 * l.at + l.fit)
